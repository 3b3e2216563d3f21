-- A file gives one list of equations, or is refused for one fault.
use Rattle.std.proofs.Common.{◌≡◌, ℕ, List, inl, inr, sym, ap, ◌∙◌, subst}
use Rattle.std.specs.Prelude.{Result, Ok, Err}
use Rattle.eq_base.specs.ReadHead.{ReadHead, symbol}
use Rattle.term_lex.specs.declared.fault.Fault.{Fault}
use Rattle.term_lex.specs.declared.syntax.Syntax.{Syntax}
use Rattle.symbol_table.specs.Table.{HasDistinctNames}
use Rattle.written_terms.specs.Notation.{Notation}
use Rattle.written_terms.proofs.Notations.{IsLawful}
use Rattle.def_file.specs.AsRead.{ReadDefinitions}
use Rattle.def_file.specs.Notations.{notation_of}
use Rattle.def_file.specs.Definitions.{Says}
use Rattle.def_file.proofs.Lawful.{lawful_of}
use Rattle.def_file.proofs.OneFault.{says_no_fault, one_file_fault}
use Rattle.def_file.proofs.OneAnswer.{says_distinct, says_one}
use Rattle.qualifiers.specs.Expansion.{PlainEquation}
use Rattle.qualifiers.specs.AsRead.{IsExpanding}
use Rattle.qualifiers.proofs.OneExpansion.{one_expansion}
use Rattle.ei_program.specs.Definitions.{Definitions, Defines, RefusesFile}

module _ (syntax : Syntax) (text : List ℕ) where
  abbrev notation : Notation
  notation = notation_of syntax

  abbrev lawful : IsLawful notation
  lawful = lawful_of syntax

  -- what the file says is expanded in one way
  one_expanding : (read other : ReadDefinitions) → Says notation text read → Says notation text other → (one two : Result (List (PlainEquation ReadHead)) Fault) → IsExpanding read one → IsExpanding other two → one ≡ two
  one_expanding read other says says' one two is is' =
      let same = says_one lawful text other read says' says in
      one_expansion symbol read (says_distinct lawful text read says) one two is (subst (λ d. IsExpanding d two) same is')

  -- ---- one list of equations

  pub one_given : (d e : Definitions) → Defines syntax text d → Defines syntax text e → d ≡ e
  one_given d e g h =
      let same = says_one lawful text g.read h.read g.says h.says in
      let expanded : ◌≡◌ {A = Result (List (PlainEquation ReadHead)) Fault} (Ok d.equations) (Ok e.equations) = one_expanding g.read h.read g.says h.says (Ok d.equations) (Ok e.equations) g.expansion h.expansion in
      let equations : d.equations ≡ e.equations = cc in
      let names = g.names ∙ ap (λ (r : ReadDefinitions). r.names) same ∙ sym h.names in
      let classes = g.classes ∙ ap (λ (r : ReadDefinitions). r.classes) same ∙ sym h.classes in
      λ i. record { names = names i; classes = classes i; equations = equations i }

  pub given_distinct : (d : Definitions) → Defines syntax text d → HasDistinctNames d.names
  given_distinct d g = subst HasDistinctNames (sym g.names) (says_distinct lawful text g.read g.says)

  -- ---- one fault

  -- a file that defines something is not refused
  pub defines_or_refused : (d : Definitions) (f : Fault) → Defines syntax text d → RefusesFile syntax text f → ⊥
  defines_or_refused d f g (inl fault) = says_no_fault lawful text g.read f g.says fault
  defines_or_refused d f g (inr h) =
      let both : ◌≡◌ {A = Result (List (PlainEquation ReadHead)) Fault} (Ok d.equations) (Err f) = one_expanding g.read h.read g.says h.says (Ok d.equations) (Err f) g.expansion h.refused in cc

  pub one_refusal : (f g : Fault) → RefusesFile syntax text f → RefusesFile syntax text g → f ≡ g
  one_refusal f g (inl fault) (inl fault') = one_file_fault lawful text f g fault fault'
  one_refusal f g (inl fault) (inr h) = absurd (says_no_fault lawful text h.read f h.says fault)
  one_refusal f g (inr h) (inl fault) = absurd (says_no_fault lawful text h.read g h.says fault)
  one_refusal f g (inr h) (inr k) =
      let both : ◌≡◌ {A = Result (List (PlainEquation ReadHead)) Fault} (Err f) (Err g) = one_expanding h.read k.read h.says k.says (Err f) (Err g) h.refused k.refused in cc
