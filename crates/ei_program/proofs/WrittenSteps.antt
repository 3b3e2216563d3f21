-- The root steps by a file's equations are the instances of its own items.
use Rattle.std.proofs.Common.{◌≡◌, ℕ, List, map, refl, sym, ap, ◌∙◌, subst, inl, inr}
use Rattle.std.specs.Prelude.{Contains, Some, slice_get}
use Rattle.std.proofs.lemmas.Option.{slice_get-get_or}
use Rattle.eq_base.specs.Tree.{Tree, Forest, node, empty, grow, map_all_heads}
use Rattle.eq_base.specs.Pattern.{PatternCell, fixed, variable, restricted, variables}
use Rattle.eq_base.specs.Testing.{IsPattern, ArePatterns}
use Rattle.eq_base.specs.Mapping.{map_cell, map_pattern}
use Rattle.eq_base.specs.Rewriting.{RightSide, pattern, operation, RootStep}
use Rattle.eq_base.specs.ReadHead.{ReadHead, symbol, in_read_class}
use Rattle.eq_base.specs.Operations.{value_of}
use Rattle.eq_base.specs.declared.head.Head.{Head}
use Rattle.eq_base.specs.declared.head.Head.TheVariants.{Symbol}
use Rattle.eq_base.proofs.Mapped.{variables-map}
use Rattle.eq_base.proofs.Lists.{all_contained}
use Rattle.term_lex.specs.declared.syntax.Syntax.{Syntax}
use Rattle.regularity.specs.Listing.{break_at}
use Rattle.regularity.specs.Restrictions.{HasUnbound}
use Rattle.regularity.proofs.MappedPatterns.{has_unbound-unmap}
use Rattle.orthogonal_laws.proofs.Singles.{bound_of}
use Rattle.def_file.specs.AsRead.{ReadDefinitions}
use Rattle.def_file.proofs.Lawful.{lawful_of}
use Rattle.def_file.proofs.OneAnswer.{says_one}
use Rattle.qualifiers.specs.Expansion.{PlainEquation}
use Rattle.qualifiers.specs.AsRead.{IsExpansion}
use Rattle.qualifiers.proofs.SaysProper.{says_proper}
use Rattle.qualifiers.proofs.Whole.{same_instances}
use Rattle.qualifiers.proofs.SameClasses.{IsProperRule, StandOnLeft, expansion_proper, instances_are_steps}
use Rattle.ei_program.specs.Definitions.{Definitions, rule_in, BreaksNone, Defines, HasWrittenSteps}

-- ---- variables, whatever the heads

-- a pattern is one under other heads
module _ {A B : Type 0} (f : A → B) where
  mutual
    pattern-map : (p : Tree (PatternCell A)) → IsPattern p → IsPattern (map_pattern f p)
    pattern-map (node (fixed h) ps) is = patterns-map ps is
    pattern-map (node (variable x) ps) is = ap (map_all_heads (map_cell f)) is
    pattern-map (node (restricted x class) ps) is = ap (map_all_heads (map_cell f)) is

    patterns-map : (ps : Forest (PatternCell A)) → ArePatterns ps → ArePatterns (map_all_heads (map_cell f) ps)
    patterns-map empty is = tt
    patterns-map (grow p ps) is = (pattern-map p is.0, patterns-map ps is.1)

-- where no variable is on the right side alone, each stands on the left; heads do not matter, so all are made one
bound_left : (left right : Tree (PatternCell ReadHead)) → IsPattern left → ((at : ℕ) → HasUnbound left (pattern right) at → ⊥) → StandOnLeft left (pattern right)
bound_left left right is none =
    let f : ReadHead → Head = λ h. Symbol 0 in
    let bound = bound_of (map_pattern f left) (map_pattern f right) (pattern-map f left is) (λ at u. none at (has_unbound-unmap f left (pattern right) at u)) in
    λ x c. subst (λ xs. Contains xs x) (variables-map f left)
    (all_contained (λ y. Contains (variables (map_pattern f left)) y) (variables (map_pattern f right)) x bound
    (subst (λ xs. Contains xs x) (sym (variables-map f right)) c))

-- ---- the equations of a file

module _ (d : Definitions) (none : BreaksNone d) where
  -- none has a variable on the right side alone
  none_unbound : (k : ℕ) (e : PlainEquation ReadHead) → slice_get d.equations k ≡ Some e → (at : ℕ) → HasUnbound e.rule.left e.rule.right at → ⊥
  none_unbound k e listed at unbound =
      none (break_at 2 k at k) (inl (inl (inr (record { restriction = refl; equation = e; listed = listed; unbound = unbound; second = refl }))))

  -- each has its variables on the left side
  on_left : (e : PlainEquation ReadHead) → Contains d.equations e → IsProperRule e.rule.left e.rule.right → StandOnLeft e.rule.left e.rule.right
  on_left e (k, lt, here) proper = of_right e.rule.right proper (none_unbound k e (slice_get-get_or d.equations k e lt ∙ ap (λ z. Some z) here))
    where
      of_right : (right : RightSide ReadHead) → IsProperRule e.rule.left right → ((at : ℕ) → HasUnbound e.rule.left right at → ⊥) → StandOnLeft e.rule.left right
      of_right (pattern right) sides unbound = bound_left e.rule.left right sides.is_pattern unbound
      of_right (operation op) sides unbound = tt

-- the root steps by the equations that a file gives are exactly the instances of its items
pub written_steps : (syntax : Syntax) (text : List ℕ) (d : Definitions) → Defines syntax text d → BreaksNone d → HasWrittenSteps syntax text d
written_steps syntax text d g none read says t u =
    let lawful = lawful_of syntax in
    let expansion : IsExpansion read d.equations = subst (λ r. IsExpansion r d.equations) (says_one lawful text g.read read g.says says) g.expansion in
    let same = says_one lawful text g.read read g.says says in
    let proper = says_proper lawful text read says in
    let each = expansion_proper symbol (in_read_class read.classes) read d.equations proper expansion in
    let instances = same_instances read d.equations proper expansion t u in
    let steps = instances_are_steps value_of (in_read_class read.classes) d.equations t u each (λ e listed. on_left d none e listed (each e listed)) in
    let classes : read.classes ≡ d.classes = ap (λ (r : ReadDefinitions). r.classes) (sym same) ∙ sym g.classes in
    let Steps : List (List ReadHead) → Type 0 = λ c. RootStep (record { rules = map rule_in d.equations; in_class = in_read_class c; value_of = value_of }) t u in
    (λ i. subst Steps classes (steps.0 (instances.0 i)), λ s. instances.1 (steps.1 (subst Steps (sym classes) s)))
