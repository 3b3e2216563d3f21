use Rattle.std.proofs.Common.{◌≡◌, ℕ, List, map, ap, ◌∙◌}
use Rattle.eq_base.specs.Tree.{map_heads}
use Rattle.def_file.specs.Definitions.{classed}
use Rattle.def_file.specs.Taking.{classes_in, qualifier_of}
use Rattle.def_file.proofs.naming.classes.written.Goals as goal

pub returns : goal.returns
returns c =
    let classes : List (ℕ × ℕ) = classes_in c.args.taken.conditions.items in
    let found : c.in_ok-classes.classes ≡ classes = c.in_ok-classes.ensures ∙ ap classes_in c.deref.ensures.value in
    let left : c.in_ok-left.left ≡ map_heads (classed classes) c.args.taken.left = c.in_ok-left.ensures ∙ ap (λ k. map_heads (classed k) c.args.taken.left) found in
    let right : c.in_ok-right.right ≡ map_heads (classed classes) c.args.taken.right = c.in_ok-right.ensures ∙ ap (λ k. map_heads (classed k) c.args.taken.right) found in
    let qualifiers : c.in_ok-qualifiers.qualifiers ≡ map (qualifier_of classes) c.args.taken.conditions.items =
    c.in_ok-qualifiers.ensures ∙ ap (λ k. map (qualifier_of k) c.deref-2.result.now) found ∙ ap (map (qualifier_of classes)) c.deref-2.ensures.value in
    λ i. record { left = left i; right = right i; qualifiers = qualifiers i; byte = c.args.byte }
