-- The text of a head that can be read again is a lexeme that means the head.
use Rattle.std.proofs.Common.{◌≡◌, ℕ, List, [], refl, sym, ap, subst, inl, inr, arith}
use Rattle.std.proofs.lemmas.Option.{get_or_from_slice_get}
use Rattle.std.specs.Prelude.{Contains}
use Rattle.eq_base.specs.Pattern.{fixed}
use Rattle.eq_base.specs.ReadHead.{ReadHead, symbol, numeral, atom, text as string}
use Rattle.term_lex.specs.declared.token.TokenKind.{TokenKind}
use Rattle.term_lex.specs.declared.token.TokenKind.TheVariants.{Name, OpenRound, Numeral as NumeralToken, Text as TextToken}
use Rattle.term_lex.specs.Tokens.{IsName}
use Rattle.term_lex.proofs.Spellings.{EndsWord, Spells, word_at, name_spells, decimal_spells, decimal-value, string_spells}
use Rattle.symbol_table.specs.Table.{Declared, Table, symbols_of}
use Rattle.written_terms.specs.Meaning.{NamesHead, MeansCell}
use Rattle.written_terms.specs.Printing.{head_text}
use Rattle.written_terms.specs.Readable.{IsReadable}

module _ (table : Table) where
  -- the text of a head, where these bytes follow, is a token, and with so many arguments its lexeme means the head
  pub record ReadsHead (head : ReadHead) (args : ℕ) (follow : List ℕ) : Type 0 where
    pub kind : TokenKind
    pub spells : Spells kind (head_text table head) follow
    pub no_bracket : kind ≡ OpenRound → ⊥
    pub means : (from : ℕ) → MeansCell table [] (word_at from kind (head_text table head)) args (fixed head)

  no_variable : (name : List ℕ) → Contains [] name → ⊥
  no_variable name among = absurd (omega (arith, among.1))

  reads_name : (head : ReadHead) (args : ℕ) (follow name : List ℕ) → head_text table head ≡ name → IsName name → NamesHead table name args head → EndsWord follow → ReadsHead head args follow
  reads_name head args follow name is is_name names ends = record {
    kind = Name;
    spells = subst (λ word. Spells Name word follow) (sym is) (name_spells name follow is_name ends);
    no_bracket = λ e. cc;
    means = λ from. inl (refl, no_variable (head_text table head), subst (λ word. NamesHead table word args head) (sym is) names);
  }

  pub reads_head : (head : ReadHead) (args : ℕ) (follow : List ℕ) → IsReadable table head args → EndsWord follow → ReadsHead head args follow
  reads_head (symbol n) args follow (name, declared, is_name) ends =
      let is = ap (λ (symbol : Declared). symbol.name) (get_or_from_slice_get (symbols_of table) n _ _ declared.listed) in
      reads_name (symbol n) args follow name is is_name declared ends
  reads_head (atom name) args follow (none, included, is_name, undeclared) ends =
      reads_name (atom name) args follow name refl is_name (undeclared, none, included, refl) ends
  reads_head (numeral value) args follow (none, included, least, below) ends = record {
    kind = NumeralToken;
    spells = decimal_spells value follow least below ends;
    no_bracket = λ e. cc;
    means = λ from. inr (inl (none, (refl, included, sym (decimal-value value least below))));
  }
  reads_head (string value) args follow (none, included, holds, short) ends = record {
    kind = TextToken;
    spells = string_spells value follow holds short;
    no_bracket = λ e. cc;
    means = λ from. inr (inl (none, (refl, included, record { quoted = refl; holds = holds })));
  }
