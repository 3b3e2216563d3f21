-- Replacement lists: the graph run makes one, and each derives what the nodes stand for.
use Rattle.std.proofs.Common.{◌≡◌, ℕ, List, [], ◌∷◌, ◌++◌, length, length-append, Some, refl, ◌∙◌, ap, subst, arith}
use Rattle.std.specs.Prelude.{slice_get}
use Rattle.eq_base.specs.Rewriting.{System, IsDerivable}
use Rattle.eq_base.specs.Rewriting as rewriting
use Rattle.orthogonal_laws.specs.Orthogonal.{IsWellFormedSystem, IsOrthogonal}
use Rattle.graph_laws.specs.Numbered.{Numbered, plain, AreShared}
use Rattle.graph_laws.specs.Runs.{IsReplaced, ReplacementList, done, next, GraphRun, start, then}
use Rattle.graph_laws.specs.Entries.{nodes_of, entries_of, list_entries}
use Rattle.graph_laws.proofs.ManySteps.{on}
use Rattle.graph_laws.proofs.Rewriting.{rewrites, derives}
use Rattle.graph_laws.proofs.KeepingShared.{stay_shared}
use Rattle.graph_laws.proofs.OneRun.{one_replacement}

module _ {H : Type 0} (system : System H) where
  -- one more replacement
  record Longer {trees between after : List (Numbered H)} {ns : List ℕ} {n : ℕ} (l : ReplacementList system trees ns between) (x : IsReplaced system n between after) : Type 0 where
    list : ReplacementList system trees (ns ++ n ∷ []) after
    entries : list_entries list ≡ list_entries l ++ (n, x.number) ∷ []

  longer : {trees between after : List (Numbered H)} {ns : List ℕ} {n : ℕ} (l : ReplacementList system trees ns between) (x : IsReplaced system n between after) → Longer l x
  longer done x = record { list = next x done; entries = refl }
  longer (next {n = m} y l) x = let z = longer l x in record { list = next y z.list; entries = ap (λ es. (m, y.number) ∷ es) z.entries }

  -- the replacements of a graph run are a replacement list that leads to the same store
  pub record IsListed {root : ℕ} {trees : List (Numbered H)} {n : ℕ} {after : List (Numbered H)} (run : GraphRun system root trees n after) : Type 0 where
    pub list : ReplacementList system trees (nodes_of run) after
    pub entries : list_entries list ≡ entries_of run

  pub run_listed : {root : ℕ} {trees : List (Numbered H)} {n : ℕ} {after : List (Numbered H)} (run : GraphRun system root trees n after) → IsListed run
  run_listed start = record { list = done; entries = refl }
  run_listed (then {n = n} run is_next x) =
      let l = run_listed run in
      let z = longer l.list x in
      record { list = z.list; entries = z.entries ∙ ap (λ es. es ++ (n, x.number) ∷ []) l.entries }

  -- as many as the run has replacements
  pub length-nodes_of : {root : ℕ} {trees : List (Numbered H)} {n : ℕ} {after : List (Numbered H)} (run : GraphRun system root trees n after) → length (nodes_of run) ≡ n
  length-nodes_of start = refl
  length-nodes_of (then {n = n} run is_next x) = omega (arith, length-append (nodes_of run) (n ∷ []), length-nodes_of run)

  -- a list leads to one store
  pub one_list : IsOrthogonal system → {trees after others : List (Numbered H)} {ns : List ℕ} → ReplacementList system trees ns after → ReplacementList system trees ns others → after ≡ others
  one_list o done done = refl
  one_list o {others = others} (next {trees = trees} {between = a} {n = n} {ns = ns} x l) (next {between = b} x' l') =
      let same : b ≡ a = one_replacement system o n trees b a x' x in
      one_list o l (subst (λ z. ReplacementList system z ns others) same l')

  module _ (w : IsWellFormedSystem system) (o : IsOrthogonal system) where
    -- what a node stands for is derived
    pub record Derives (i : ℕ) (t : Numbered H) (after : List (Numbered H)) : Type 0 where
      pub tree : Numbered H
      pub stands : slice_get after i ≡ Some tree
      pub derivable : IsDerivable system (plain t) (plain tree)
      pub shared : AreShared after

    pub list_derives : {trees after : List (Numbered H)} {ns : List ℕ} → ReplacementList system trees ns after → AreShared trees → (i : ℕ) (t : Numbered H) → slice_get trees i ≡ Some t → Derives i t after
    list_derives done shared i t e = record { tree = t; stands = e; derivable = (0, rewriting.start); shared = shared }
    list_derives (next {trees = trees} {between = between} {n = n} x l) shared i t e =
        let a = rewrites system trees between n i t shared x e in
        let d = list_derives l (stay_shared system w o trees between n shared x) i a.tree a.stands in
        record { tree = d.tree; stands = d.stands; derivable = on system (derives system n t a.tree a.rewritten) d.derivable; shared = d.shared }
