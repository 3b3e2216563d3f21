use Rattle.std.proofs.Common.{◌≡◌, ◌∙◌, subst}
use Rattle.std.specs.List.{each_same, AllZip}
use Rattle.eq_base.specs.declared.head.Head.{Head}
use Rattle.eq_base.proofs.ClassMembers.{keys-copied}
use Rattle.eq_base.proofs.classes.Classes.copy.Goals as goal

pub returns : goal.returns
returns c =
    let copies = c.in_ok-sets.sets.items in
    let all = subst (λ l. AllZip (λ s t. AllZip (λ (x y : Head). y ≡ x) s.keys t.keys) l copies) c.deref.ensures.value c.in_ok-sets.ensures.ok in
    keys-copied (λ s. s.keys) (λ s t. AllZip (λ (x y : Head). y ≡ x) s.keys t.keys) (λ s t same. each_same s.keys t.keys same) c.self.inside.sets.items copies all
    ∙ c.self.view_is
