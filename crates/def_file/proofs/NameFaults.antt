-- Which faults of a file the refusals of its names are.
use Rattle.std.proofs.Common.{◌≡◌, List, [], ◌∷◌, inl, inr, refl, ℕ, subst}
use Rattle.std.specs.Prelude.{ℤ}
use Rattle.term_lex.specs.declared.token.Token.{Token}
use Rattle.term_lex.specs.declared.fault.FaultKind.TheVariants.{Twice, ArityPast}
use Rattle.term_lex.specs.Values.{numeral_value}
use Rattle.symbol_table.specs.Refusing as symbols
use Rattle.symbol_table.specs.Refusing.{RefusesDeclaration, RefusesInclude, RefusesVariable}
use Rattle.symbol_table.specs.declared.error.SymbolError.{SymbolError}
use Rattle.symbol_table.specs.declared.error.SymbolError.TheVariants.{Refused, NoMemory}
use Rattle.written_terms.specs.Notation.{Notation}
use Rattle.def_file.specs.Errors.{IfRefused, refused_at, declaration_error}
use Rattle.def_file.specs.Names.{Symbol, Class, token_bytes, Known, RefusesFirst}

module _ (notation : Notation) (text : List ℕ) (known : Known) where
  refused_declaration : (name arity : Token) (error : SymbolError) → symbols.IfRefused (RefusesDeclaration known.table (token_bytes text name) (numeral_value (token_bytes text arity))) error → IfRefused (RefusesFirst notation text known (Symbol name arity ∷ [])) (declaration_error error name arity)
  refused_declaration name arity (Refused Twice) h = inl (h, inl (refl, refl))
  refused_declaration name arity (Refused ArityPast) h = inl (h, inr (refl, refl))
  refused_declaration name arity (Refused kind) h = absurd h
  refused_declaration name arity NoMemory h = tt

  pub declaration_refused : (name arity : Token) (error : SymbolError) (bytes : List ℕ) (arguments : ℤ) → bytes ≡ token_bytes text name → arguments ≡ numeral_value (token_bytes text arity) → symbols.IfRefused (RefusesDeclaration known.table bytes arguments) error → IfRefused (RefusesFirst notation text known (Symbol name arity ∷ [])) (declaration_error error name arity)
  declaration_refused name arity error bytes arguments e f h = refused_declaration name arity error (subst (λ b. symbols.IfRefused (RefusesDeclaration known.table b (numeral_value (token_bytes text arity))) error) e (subst (λ n. symbols.IfRefused (RefusesDeclaration known.table bytes n) error) f h))

  pub class_refused : (name : Token) (error : SymbolError) → symbols.IfRefused (RefusesInclude known.table (token_bytes text name)) error → IfRefused (RefusesFirst notation text known (Class name ∷ [])) (refused_at error name.from)
  class_refused name (Refused kind) h = inl (h, refl)
  class_refused name NoMemory h = tt
