use Rattle.std.proofs.Common.{◌≡◌, ◌<◌, ◌≤◌, ◌+◌, ◌-◌, ◌++◌, ℕ, length, get_or, set, Some, false, refl, sym, ◌∙◌, ap, subst, arith, length-append}
use Rattle.eq_base.specs.RuleList.{RuleList}
use Rattle.std.specs.Prelude.{slice_get, Contains, replicate}
use Rattle.std.specs.List.{AllByRecursion}
use Rattle.std.proofs.lemmas.List.{length-set, length-replicate}
use Rattle.eq_base.specs.Tree.{Tree, size}
use Rattle.eq_base.specs.Pattern.{PatternCell, variables, Substitution, apply}
use Rattle.eq_base.specs.declared.head.Head.{Head}
use Rattle.eq_base.proofs.Lists.{all_map, all_contained}
use Rattle.sequentiality.specs.Regular.{AreRegular}
use Rattle.graph_laws.specs.Replacing.{MeetsWith, IsReplacement, new_count, replaced_trees}
use Rattle.term_graph.specs.Sides.{HasSides}
use Rattle.term_graph.specs.Graph.{Graph}
use Rattle.term_graph.specs.Contents.{IsOwn, trees_of}
use Rattle.term_graph.specs.Binding.{node_tree, met_node, IsBound}
use Rattle.term_graph.specs.Making.{AreBuilt}
use Rattle.term_graph.proofs.Reading.{no_content, seen-there, seen-length, seen-own, seen-followed, seen-term, seen-stands}
use Rattle.term_graph.proofs.NumberedInstances.{numbered_parts}
use Rattle.term_graph.proofs.Sides.{left-root, left-small, left-linear, right-bound, same_sides}
use Rattle.term_graph.proofs.Replacements.{length-built, nodes_replaced, trees_replaced_are, new_below}
use Rattle.term_graph.proofs.store.Store.replace.Goals as goal
use Rattle.term_graph.proofs.store.Store.replace.Goals.{After-deref-2, After-len}

-- the sides of the equation
sides : (c : After-deref-2) → HasSides c.args.regular.now c.args.equation c.equation-rule.result.now.left c.in-Tree.right
sides c = record {
  equation = c.equation-rule.result.now;
  listed = subst (λ (rs : RuleList). slice_get rs.equations c.args.equation ≡ Some c.equation-rule.result.now) c.rules.ensures.value c.equation-rule.ensures;
  left_is = refl;
  right_is = c.in-Tree.is;
}

regular : (c : After-deref-2) → AreRegular c.args.regular.now
regular c = c.rules.ensures.regular

there : (c : After-deref-2) → c.args.node < length c.self.inside.nodes.items
there c = seen-there c.self.inside.args.items c.self.inside.nodes.items c.self.inside.marks.items _ _ c.self.invariant _ c.args.self.now c.self.view_is c.args.node c.requires.followed.there

abbrev tree_of : After-deref-2 → Tree (Head × ℕ)
tree_of c = node_tree c.self.inside.args.items c.self.inside.nodes.items c.args.node

-- the left side that is required to fit is that of the equation
left_same : (c : After-deref-2) → (c.requires.left ≡ c.equation-rule.result.now.left) × (c.requires.right ≡ c.in-Tree.right)
left_same c = same_sides c.args.regular.now (regular c) c.args.equation c.requires.left c.requires.right c.requires.sides c.equation-rule.result.now.left c.in-Tree.right (sides c)

parts : (c : After-deref-2) → (σ : Substitution (Head × ℕ)) × MeetsWith σ c.equation-rule.result.now.left (tree_of c)
parts c =
    numbered_parts c.requires.fits.substitution c.equation-rule.result.now.left (tree_of c)
    (left-linear c.args.regular.now (regular c) c.args.equation c.equation-rule.result.now.left c.in-Tree.right (sides c))
    (ap (apply c.requires.fits.substitution) (sym (left_same c).0) ∙ c.requires.fits.applied ∙ seen-term c.self.inside.args.items c.self.inside.nodes.items c.self.inside.marks.items _ _ c.self.invariant _ c.args.self.now c.self.view_is c.args.node c.requires.followed)

small : (c : After-deref-2) → size c.equation-rule.result.now.left ≤ 255
small c = left-small c.args.regular.now (regular c) c.args.equation c.equation-rule.result.now.left c.in-Tree.right (sides c)

pub bind-requires-clause-there : goal.bind-requires-clause-there
bind-requires-clause-there c =
    let d = (goal.at.bind-requires-clause-there c).After-deref-2 in
    omega (arith, there d, ap length c.deref.ensures.value)

pub bind-requires-clause-own : goal.bind-requires-clause-own
bind-requires-clause-own c =
    subst (λ nodes. IsOwn (get_or nodes c.args.node no_content)) (sym c.deref.ensures.value) (seen-own c.self.inside.args.items c.self.inside.nodes.items c.self.inside.marks.items _ _ c.self.invariant _ c.args.self.now c.self.view_is c.args.node c.requires.followed)

pub bind-requires-clause-root : goal.bind-requires-clause-root
bind-requires-clause-root c =
    let d = (goal.at.bind-requires-clause-root c).After-deref-2 in
    left-root c.args.regular.now (regular d) c.args.equation c.equation-rule.result.now.left c.in-Tree.right (sides d)

pub bind-requires-clause-fits : goal.bind-requires-clause-fits
bind-requires-clause-fits c =
    let d = (goal.at.bind-requires-clause-fits c).After-deref-2 in
    rw (c.deref.ensures.value, c.deref-2.ensures.value) (parts d)

pub bind-requires-clause-pending : goal.bind-requires-clause-pending
bind-requires-clause-pending c =
    let d = (goal.at.bind-requires-clause-pending c).After-deref-2 in
    omega (arith, small d, c.self.invariant.pending_room)

pub bind-requires-clause-met : goal.bind-requires-clause-met
bind-requires-clause-met c =
    let d = (goal.at.bind-requires-clause-met c).After-deref-2 in
    omega (arith, small d, c.self.invariant.met_room)

pub index_mut-requires : goal.index_mut-requires
index_mut-requires c =
    let d = (goal.at.index_mut-requires c).After-deref-2 in
    omega (arith, there d, ap length c.build-root.ensures.built.nodes_are, length-append c.self.inside.nodes.items c.build-root.ensures.built.more)

-- what the variables of the right side met
bound : (c : After-len) (d : After-deref-2) → (σ : Substitution (Head × ℕ)) → MeetsWith σ c.equation-rule.result.now.left (node_tree c.self.inside.args.items c.self.inside.nodes.items c.args.node) → AllByRecursion (λ x. Contains (variables c.equation-rule.result.now.left) x) (variables c.in-Tree.right) → AllByRecursion (IsBound c.self.inside.args.items c.self.inside.nodes.items c.args.node σ c.bind.new.met.items) (variables c.in-Tree.right)
bound c d σ m over =
    let left = c.equation-rule.result.now.left in
    let all = subst (λ nodes. (σ : Substitution (Head × ℕ)) → MeetsWith σ left (node_tree c.self.inside.args.items nodes c.args.node) → AllByRecursion (IsBound c.self.inside.args.items nodes c.args.node σ c.bind.new.met.items) (variables left)) c.deref.ensures.value
    (subst (λ args. (σ : Substitution (Head × ℕ)) → MeetsWith σ left (node_tree args c.deref.result.now c.args.node) → AllByRecursion (IsBound args c.deref.result.now c.args.node σ c.bind.new.met.items) (variables left)) c.deref-2.ensures.value c.bind.ensures.bound) in
    all_map (λ x. Contains (variables left) x) (IsBound c.self.inside.args.items c.self.inside.nodes.items c.args.node σ c.bind.new.met.items) (variables c.in-Tree.right)
    (λ x k. all_contained (IsBound c.self.inside.args.items c.self.inside.nodes.items c.args.node σ c.bind.new.met.items) (variables left) x (all σ m) k)
    over

built : (c : After-len) → AreBuilt (met_node c.bind.new.met.items) c.in-Tree.right c.self.inside.args.items c.build-root.new.args.items c.self.inside.nodes.items c.build-root.new.nodes.items c.build-root.result
built c =
    subst (λ ms. AreBuilt (met_node ms) c.in-Tree.right c.self.inside.args.items c.build-root.new.args.items c.self.inside.nodes.items c.build-root.new.nodes.items c.build-root.result) c.deref-3.ensures.value c.build-root.ensures.built

long : (c : After-len) → length c.build-root.new.nodes.items ≡ length c.self.inside.nodes.items + new_count c.in-Tree.right
long c = length-built (met_node c.bind.new.met.items) c.in-Tree.right c.self.inside.args.items c.build-root.new.args.items c.self.inside.nodes.items c.build-root.new.nodes.items c.build-root.result (built c)

room : (c : After-deref-2) → size c.in-Tree.right ≤ c.args.self.now.spare
room c = omega (arith, c.requires.room, ap size (left_same c).1)

pub add_marks-requires : goal.add_marks-requires
add_marks-requires c =
    let d = (goal.at.add_marks-requires c).After-deref-2 in
    let e = (goal.at.add_marks-requires c).After-len in
    omega (arith, long e, room d, ap (λ (g : Graph). g.spare) c.self.view_is, new_below c.in-Tree.right)

pub invariant_of-self : goal.invariant_of-self
invariant_of-self c =
    let d = (goal.at.invariant_of-self c).After-deref-2 in
    let e = (goal.at.invariant_of-self c).After-len in
    let p = parts d in
    let over = right-bound c.args.regular.now (regular d) c.args.equation c.equation-rule.result.now.left c.in-Tree.right (sides d) in
    record {
      nodes_kept = nodes_replaced c.self.inside.args.items c.self.inside.nodes.items c.self.invariant.nodes_kept c.args.node (there d) c.in-Tree.right c.bind.new.met.items p.0 (bound e d p.0 p.1 over) c.build-root.new.args.items c.build-root.new.nodes.items c.build-root.result (built e);
      marks_kept = omega (arith, ap length c.add_marks.ensures.marks, length-append c.self.inside.marks.items (replicate (c.len.result - c.len-first.result) false), length-replicate (c.len.result - c.len-first.result) false, long e, c.self.invariant.marks_kept, length-set c.build-root.new.nodes.items c.args.node c.build-root.result);
      pending_room = omega (arith, c.self.invariant.pending_room, c.build-root.ensures.pending, c.bind.ensures.pending);
      met_room = omega (arith, c.self.invariant.met_room, c.bind.ensures.met);
    }

pub returns-clause-trees : goal.returns-clause-trees
returns-clause-trees c =
    λ left right s.
    let d = (goal.at.returns-clause-trees c).After-deref-2 in
    let e = (goal.at.returns-clause-trees c).After-len in
    let p = parts d in
    let over = right-bound c.args.regular.now (regular d) c.args.equation c.equation-rule.result.now.left c.in-Tree.right (sides d) in
    let same = same_sides c.args.regular.now (regular d) c.args.equation c.equation-rule.result.now.left c.in-Tree.right (sides d) left right s in
    subst (λ l. IsReplacement l right c.args.node c.args.self.now.trees (trees_of c.build-root.new.args.items (set c.build-root.new.nodes.items c.args.node c.build-root.result))) same.0
    (subst (λ r. IsReplacement c.equation-rule.result.now.left r c.args.node c.args.self.now.trees (trees_of c.build-root.new.args.items (set c.build-root.new.nodes.items c.args.node c.build-root.result))) same.1
    (record {
      tree = tree_of d;
      stands = seen-stands c.self.inside.args.items c.self.inside.nodes.items c.self.inside.marks.items _ _ c.self.invariant _ c.args.self.now c.self.view_is c.args.node c.requires.followed;
      substitution = p.0;
      meets = p.1;
      result =
          trees_replaced_are c.self.inside.args.items c.self.inside.nodes.items c.self.invariant.nodes_kept c.args.node (there d) c.in-Tree.right c.bind.new.met.items p.0 (bound e d p.0 p.1 over) c.build-root.new.args.items c.build-root.new.nodes.items c.build-root.result (built e) (seen-followed c.self.inside.args.items c.self.inside.nodes.items c.self.inside.marks.items _ _ c.self.invariant _ c.args.self.now c.self.view_is c.args.node c.requires.followed)
          ∙ ap (λ (g : Graph). replaced_trees p.0 c.in-Tree.right c.args.node g.trees) c.self.view_is;
    }))

-- the right side of these sides is that of the equation
right_is : (d : After-deref-2) (left right : Tree (PatternCell Head)) → HasSides d.args.regular.now d.args.equation left right → d.in-Tree.right ≡ right
right_is d left right s = (same_sides d.args.regular.now (regular d) d.args.equation d.equation-rule.result.now.left d.in-Tree.right (sides d) left right s).1

pub returns-clause-marks : goal.returns-clause-marks
returns-clause-marks c =
    λ left right s.
    let d = (goal.at.returns-clause-marks c).After-deref-2 in
    let e = (goal.at.returns-clause-marks c).After-len in
    let made : c.len.result - c.len-first.result ≡ new_count right = omega (arith, long e, ap new_count (right_is d left right s)) in
    c.add_marks.ensures.marks ∙ ap (λ n. c.self.inside.marks.items ++ replicate n false) made ∙ ap (λ (g : Graph). g.marks ++ replicate (new_count right) false) c.self.view_is

pub returns-clause-spare : goal.returns-clause-spare
returns-clause-spare c =
    λ left right s.
    let d = (goal.at.returns-clause-spare c).After-deref-2 in
    let e = (goal.at.returns-clause-spare c).After-len in
    let b = built e in
    omega (arith, long e, ap (λ (g : Graph). g.spare) c.self.view_is, new_below c.in-Tree.right, ap size (right_is d left right s), ap length c.add_marks.ensures.marks, length-append c.self.inside.marks.items (replicate (c.len.result - c.len-first.result) false), length-replicate (c.len.result - c.len-first.result) false, ap length b.args_are, length-append c.self.inside.args.items b.extra, b.few, c.build-root.ensures.nodes, c.build-root.ensures.args, c.build-root.ensures.pending, c.bind.ensures.pending, c.add_marks.ensures.capacity)

pub returns-clause-first : goal.returns-clause-first
returns-clause-first c =
    omega (arith, seen-length c.self.inside.args.items c.self.inside.nodes.items c.self.inside.marks.items _ _ c.self.invariant _ c.args.self.now c.self.view_is)

pub returns-clause-made : goal.returns-clause-made
returns-clause-made c =
    λ left right s.
    let d = (goal.at.returns-clause-made c).After-deref-2 in
    let e = (goal.at.returns-clause-made c).After-len in
    omega (arith, long e, ap new_count (right_is d left right s))
