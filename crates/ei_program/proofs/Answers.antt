-- The answers of plain runs: the only normal form, or that the budget is spent.
use Rattle.std.proofs.Common.{◌≡◌, ◌<◌, ◌≤◌, ℕ, List, [], ◌++◌, inl, inr, refl, sym, ap, subst}
use Rattle.std.specs.Prelude.{codes, decimal}
use Rattle.eq_base.specs.Tree.{Tree, node, size, nth_subtree}
use Rattle.eq_base.specs.Rewriting.{System, IsNormal}
use Rattle.eq_base.specs.declared.head.Head.{Head}
use Rattle.symbol_table.specs.Table.{Table, HasOneNumberEach, names_of}
use Rattle.symbol_table.specs.Reading.{read, read_system}
use Rattle.eq_base.specs.ReadHead.{ReadHead}
use Rattle.orthogonal_laws.specs.Orthogonal.{IsLawful}
use Rattle.orthogonal_laws.specs.Strategy.{PlainRun, HasLength}
use Rattle.orthogonal_laws.specs.Past.{HasNoPast, IsFirstPast}
use Rattle.orthogonal_laws.specs.Run.{IsNormalEnd, IsSpentEnd, IsEnd}
use Rattle.orthogonal_laws.specs.declared.run.PlainEnd.{PlainEnd}
use Rattle.orthogonal_laws.specs.declared.run.PlainEnd.TheVariants.{Normal, Spent}
use Rattle.orthogonal_laws.proofs.ReadSystems.{read_lawful}
use Rattle.orthogonal_laws.proofs.PlainRuns.{run-derivation}
use Rattle.orthogonal_laws.proofs.RunLaws.{run_found, one_end, spent_right}
use Rattle.ei_program.specs.declared.ready.Ready.{Ready}
use Rattle.ei_program.specs.declared.settings.Settings.{Settings}
use Rattle.ei_program.specs.Definitions.{Definitions, system, definitions_of}
use Rattle.ei_program.specs.Loading.{IsReady}
use Rattle.term_input.specs.Printing.{print}
use Rattle.ei_program.specs.Lines.{ReducesTo, IsSpent, ended}
use Rattle.ei_program.specs.Stepping.{IsFormText, IsLineText}
use Rattle.ei_program.proofs.Holding.{system-held}

module _ (d : Definitions) (lawful : IsLawful (system d)) (budget : ℕ) (t : Tree ReadHead) where
  -- a plain run that ends within the budget ends in the only normal form
  pub reduces : (form : Tree ReadHead) (steps : ℕ) → HasLength (system d) t steps form → steps ≤ budget → ReducesTo budget d t form
  reduces form steps length within = record {
    derivable = (steps, run-derivation length.run);
    normal = length.normal;
    only = λ other derivable is_normal. one_end (system d) lawful.well_formed lawful.orthogonal t other form derivable is_normal (steps, run-derivation length.run) length.normal;
    steps = steps;
    length = length;
    within = within;
  }

  -- a plain run that is not at its end after the whole budget is longer
  pub spent : (last : Tree ReadHead) → PlainRun (system d) t budget last → (IsNormal (system d) last → ⊥) → IsSpent budget d t (codes "? spent " ++ decimal budget)
  spent last run unfinished = record {
    last = last;
    run = run;
    unfinished = unfinished;
    ends = λ form derivable normal. run_found (system d) lawful.well_formed lawful.orthogonal t form derivable normal;
    longer = λ form steps length. spent_right (system d) lawful.well_formed lawful.orthogonal t last form budget steps run unfinished length;
    written = refl;
  }

-- The run of a held term.
module _ (l : Ready) (ready : IsReady l) (one : HasOneNumberEach l.symbols) (budget : ℕ) (t : Tree Head) (new : Table) (end : PlainEnd)
    (is_end : IsEnd (read_system l.symbols l.regular) (read l.symbols t) budget new end) where
  abbrev d : Definitions
  d = definitions_of l

  -- the equations are lawful, as they are read
  lawful : IsLawful (system d)
  lawful = subst IsLawful (sym (system-held l)) (read_lawful l.symbols l.regular (record { regular = ready.regular; live = ready.live; distinct = one }))

  pub reduced : (form : Tree Head) (n : ℕ) → end ≡ Normal form n → ReducesTo budget d (read l.symbols t) (read new form)
  reduced form n is =
      let at_end : IsNormalEnd new end (read new form) n = subst (λ e. IsNormalEnd new e (read new form) n) (sym is) (refl, refl) in
      let run = (is_end.normal (read new form) n).0 at_end in
      reduces d lawful budget (read l.symbols t) (read new form) n (subst (λ s. HasLength s (read l.symbols t) n (read new form)) (sym (system-held l)) run.0) run.1

  pub spent_line : (last : Tree Head) → end ≡ Spent last → IsSpent budget d (read l.symbols t) (codes "? spent " ++ decimal budget)
  spent_line last is =
      let at_end : IsSpentEnd new end (read new last) = subst (λ e. IsSpentEnd new e (read new last)) (sym is) refl in
      let run = (is_end.spent (read new last)).0 at_end in
      let P = λ (s : System ReadHead). PlainRun s (read l.symbols t) budget (read new last) × (IsNormal s (read new last) → ⊥) in
      let held = subst P (sym (system-held l)) run in
      spent d lawful budget (read l.symbols t) (read new last) held.0 held.1

-- the line of the normal form to which a term reduces is the term's line
pub form_text : (settings : Settings) (d : Definitions) (t form : Tree ReadHead) (text : List ℕ) → ReducesTo settings.budget d t form → IsFormText settings d form text → IsLineText settings d t text
form_text settings d t form text reduced (line, is, ended) = (line, inl (form, reduced, is), ended)

-- ---- the line of a normal form that is held

-- the first node stands for the whole
first_part : {A : Type 0} (t : Tree A) → nth_subtree t 0 ≡ t
first_part (node a ts) = refl

module _ (l : Ready) (settings : Settings) (form : Tree Head) (text : List ℕ) where
  abbrev held : Tree ReadHead
  held = read l.symbols form

  abbrev part : ℕ → List ℕ
  part at = print settings.syntax (names_of l.symbols) (nth_subtree held at)

  abbrev IsText : Type 0
  IsText = IsFormText settings (definitions_of l) held text

  -- the text of the first part that is past the limits
  pub tells_past : (at : ℕ) → IsFirstPast (read_system l.symbols l.regular) held at → text ≡ ended (codes "? past " ++ part at) → IsText
  tells_past at first is =
      (codes "? past " ++ part at, inr (inl (record { at = at; first = subst (λ s. IsFirstPast s held at) (sym (system-held l)) first; printed = refl })), is)

  -- that of a normal form with too many nodes
  pub tells_large : HasNoPast (read_system l.symbols l.regular) held → settings.most < size held → text ≡ ended (codes "? large") → IsText
  tells_large clean large is =
      (codes "? large", inr (inr (record { clean = subst (λ s. HasNoPast s held) (sym (system-held l)) clean; large = large; written = refl })), is)

  -- that of any other
  pub prints_form : HasNoPast (read_system l.symbols l.regular) held → size held ≤ settings.most → text ≡ ended ([] ++ part 0) → IsText
  prints_form clean small is =
      (part 0, inl (record { clean = subst (λ s. HasNoPast s held) (sym (system-held l)) clean; small = small; printed = ap (print settings.syntax (names_of l.symbols)) (first_part held) }), is)
