-- A text is a file without a fault, or has one fault.
use Rattle.std.proofs.Common.{◌≡◌, ℕ, List, [], ◌∷◌, inl, inr, sym, ap, ◌∙◌, subst, arith}
use Rattle.eq_base.specs.Tree.{size}
use Rattle.term_lex.specs.declared.fault.Fault.{Fault}
use Rattle.term_lex.specs.Lexemes.{IsFirstFault}
use Rattle.term_lex.proofs.Readings.{no_fault, one_fault}
use Rattle.written_terms.specs.Notation.{Notation}
use Rattle.written_terms.proofs.Notations.{IsLawful}
use Rattle.def_file.specs.AsRead.{ReadDefinitions}
use Rattle.def_file.specs.Trees.{File}
use Rattle.def_file.specs.Grammar.{IsSomeFile, IsFileText}
use Rattle.def_file.specs.Names.{Known, nothing_known, places_of, TakesAll, RefusesFirst}
use Rattle.def_file.specs.Sides.{Limit, Equations, Application, Cells, IsSymbolApplied, KeepsLimit, Passes, KeepsAll, PassesFirst, all_limits}
use Rattle.def_file.specs.Definitions.{sides_of, Says, HasNameFault, HasSideFault, IsFileFault}
use Rattle.def_file.proofs.OneFile.{file_reads, one_file}
use Rattle.def_file.proofs.OneNaming.{AreOnce, distinct_names, one_naming, pattern_one, named_or_refused, one_name_fault}

-- ---- limits

module _ {notation : Notation} (laws : IsLawful notation) (text : List ℕ) (known : Known) (once : AreOnce known) where
  kept_or_passed : (l : Limit) (f : Fault) → KeepsLimit notation text known l → Passes notation text known l f → ⊥
  kept_or_passed (Equations before byte) f keeps (passes, is) = omega (arith, keeps, passes)
  kept_or_passed (Application byte) f (p, read, app) (q, read', none, is) =
      none (subst IsSymbolApplied (pattern_one laws text known once byte p q read read') app)
  kept_or_passed (Cells most byte) f (p, read, fits) (q, read', past, is) =
      let same = ap size (pattern_one laws text known once byte p q read read') in omega (arith, same, fits, past)

  one_passed : (l : Limit) (f g : Fault) → Passes notation text known l f → Passes notation text known l g → f ≡ g
  one_passed (Equations before byte) f g (passes, is) (passes', is') = is ∙ sym is'
  one_passed (Application byte) f g (p, read, none, is) (q, read', none', is') = is ∙ sym is'
  one_passed (Cells most byte) f g (p, read, past, is) (q, read', past', is') = is ∙ sym is'

  all_or_passed : (ls : List Limit) (f : Fault) → KeepsAll notation text known ls → PassesFirst notation text known ls f → ⊥
  all_or_passed [] f keeps passes = passes
  all_or_passed (l ∷ ls) f (keeps, more) (inl passes) = kept_or_passed l f keeps passes
  all_or_passed (l ∷ ls) f (keeps, more) (inr (keeps', passes)) = all_or_passed ls f more passes

  one_first_passed : (ls : List Limit) (f g : Fault) → PassesFirst notation text known ls f
      → PassesFirst notation text known ls g → f ≡ g
  one_first_passed [] f g p q = absurd p
  one_first_passed (l ∷ ls) f g (inl p) (inl q) = one_passed l f g p q
  one_first_passed (l ∷ ls) f g (inl p) (inr (keeps, q)) = absurd (kept_or_passed l f keeps p)
  one_first_passed (l ∷ ls) f g (inr (keeps, p)) (inl q) = absurd (kept_or_passed l g keeps q)
  one_first_passed (l ∷ ls) f g (inr (keeps, p)) (inr (keeps', q)) = one_first_passed ls f g p q

-- ---- the phases

module _ {notation : Notation} (laws : IsLawful notation) (text : List ℕ) where
  -- what is known behind the names of a text is one
  pub one_known : (file other : File) (known more : Known) → IsFileText notation text file → IsFileText notation text other
      → TakesAll notation text nothing_known (places_of file) known
      → TakesAll notation text nothing_known (places_of other) more → (file ≡ other) × (known ≡ more)
  one_known file other known more reads reads' takes takes' =
      let same = one_file laws text file other reads reads' in (
        same,
        one_naming laws text (places_of file) known more takes
            (subst (λ v. TakesAll notation text nothing_known (places_of v) more) (sym same) takes'),
      )

  -- a text that is a file has no fault of its reading
  read_or_fault : (file : File) (f : Fault) → IsFileText notation text file → IsFirstFault (notation.Misplaced (IsSomeFile notation)) (IsSomeFile notation) text 0 f
      → ⊥
  read_or_fault file f reads first =
      no_fault (notation.Misplaced (IsSomeFile notation)) (laws.one_fault (IsSomeFile notation)) (IsSomeFile notation) text 0 reads.lexemes reads.end f
      (file_reads laws text file reads) first

  -- names have no fault, or have one
  taken_or_fault : (file : File) (known : Known) (f : Fault) → IsFileText notation text file
      → TakesAll notation text nothing_known (places_of file) known → HasNameFault notation text f → ⊥
  taken_or_fault file known f reads takes n =
      named_or_refused laws text (places_of file) known f takes
      (subst (λ v. RefusesFirst notation text nothing_known (places_of v) f)
      (one_file laws text n.file file n.reads reads) n.refused)

  one_name_refusal : (f g : Fault) → HasNameFault notation text f → HasNameFault notation text g → f ≡ g
  one_name_refusal f g n m =
      one_name_fault laws text (places_of n.file) f g n.refused
      (subst (λ v. RefusesFirst notation text nothing_known (places_of v) g)
      (one_file laws text m.file n.file m.reads n.reads) m.refused)

  -- the first limit that is passed, by what is known of the file
  passed_too : (file : File) (known : Known) (f : Fault) → IsFileText notation text file
      → TakesAll notation text nothing_known (places_of file) known → HasSideFault notation text f
      → PassesFirst notation text known (all_limits 0 (sides_of file)) f
  passed_too file known f reads takes s =
      let same = one_known s.file file s.known known s.reads reads s.names takes in
      subst (λ v. PassesFirst notation text known (all_limits 0 (sides_of v)) f) same.0
      (subst (λ k. PassesFirst notation text k (all_limits 0 (sides_of s.file)) f) same.1 s.passed)

  one_side_refusal : (f g : Fault) → HasSideFault notation text f → HasSideFault notation text g → f ≡ g
  one_side_refusal f g s t =
      one_first_passed laws text s.known (distinct_names laws text (places_of s.file) s.known s.names)
      (all_limits 0 (sides_of s.file)) f g s.passed (passed_too s.file s.known g s.reads s.names t)

  -- a file has one first fault
  pub one_file_fault : (f g : Fault) → IsFileFault notation text f → IsFileFault notation text g → f ≡ g
  one_file_fault f g (inl (long, is)) (inl (long', is')) = is ∙ sym is'
  one_file_fault f g (inl (long, is)) (inr (short, why)) = absurd (omega (arith, long, short))
  one_file_fault f g (inr (short, why)) (inl (long, is)) = absurd (omega (arith, long, short))
  one_file_fault f g (inr (short, inl p)) (inr (short', inl q)) =
      one_fault (notation.Misplaced (IsSomeFile notation)) (laws.one_fault (IsSomeFile notation)) (IsSomeFile notation) text 0 f g p q
  one_file_fault f g (inr (short, inl p)) (inr (short', inr (inl n))) =
      absurd (read_or_fault n.file f n.reads p)
  one_file_fault f g (inr (short, inl p)) (inr (short', inr (inr s))) =
      absurd (read_or_fault s.file f s.reads p)
  one_file_fault f g (inr (short, inr (inl n))) (inr (short', inl q)) =
      absurd (read_or_fault n.file g n.reads q)
  one_file_fault f g (inr (short, inr (inr s))) (inr (short', inl q)) =
      absurd (read_or_fault s.file g s.reads q)
  one_file_fault f g (inr (short, inr (inl n))) (inr (short', inr (inl m))) = one_name_refusal f g n m
  one_file_fault f g (inr (short, inr (inl n))) (inr (short', inr (inr s))) =
      absurd (taken_or_fault s.file s.known f s.reads s.names n)
  one_file_fault f g (inr (short, inr (inr s))) (inr (short', inr (inl n))) =
      absurd (taken_or_fault s.file s.known g s.reads s.names n)
  one_file_fault f g (inr (short, inr (inr s))) (inr (short', inr (inr t))) = one_side_refusal f g s t

  -- and none where it says definitions
  pub says_no_fault : (definitions : ReadDefinitions) (f : Fault) → Says notation text definitions → IsFileFault notation text f
      → ⊥
  says_no_fault definitions f says (inl (long, is)) = let short = says.short in omega (arith, long, short)
  says_no_fault definitions f says (inr (short, inl p)) = read_or_fault says.file f says.reads p
  says_no_fault definitions f says (inr (short, inr (inl n))) =
      taken_or_fault says.file says.known f says.reads says.names n
  says_no_fault definitions f says (inr (short, inr (inr s))) =
      all_or_passed laws text says.known (distinct_names laws text (places_of says.file) says.known says.names)
      (all_limits 0 (sides_of says.file)) f says.limits
      (passed_too says.file says.known f says.reads says.names s)
