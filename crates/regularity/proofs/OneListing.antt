-- The list of the breaks with a property, in their order, is one.
use Rattle.std.proofs.Common.{◌≡◌, ◌⊎◌, zero, suc, List, [], ◌∷◌, inl, inr, refl, sym, ap, subst, arith, Contains, ⊎_elim, ◌∙◌}
use Rattle.std.specs.List.{AllByRecursion}
use Rattle.eq_base.proofs.Lists.{all_contained}
use Rattle.regularity.specs.declared.breaks.Break.{Break}
use Rattle.regularity.specs.Listing.{Precedes, IsOrdered, Lists}
use Rattle.regularity.proofs.Order.{not_both}

in_list : (c x : Break) (cs : List Break) → Contains (c ∷ cs) x → (c ≡ x) ⊎ Contains cs x
in_list c x cs (zero, lt, is) = inl is
in_list c x cs (suc k, lt, is) = inr (k, omega (arith, lt), is)

later : (c x : Break) (cs : List Break) → Contains cs x → Contains (c ∷ cs) x
later c x cs (k, lt, is) = (suc k, omega (arith, lt), is)

first : (c : Break) (cs : List Break) → Contains (c ∷ cs) c
first c cs = (zero, omega arith, refl)

-- what is in the rest of an ordered list is not its first element
not_first : (b x : Break) (bs : List Break) → AllByRecursion (λ c. Precedes b c) bs → Contains bs x → b ≡ x → ⊥
not_first b x bs all here same = let after = all_contained (λ c. Precedes b c) bs x all here in not_both b x after (subst (λ c. Precedes c b) same (subst (λ c. Precedes b c) (sym same) after))

-- the rest of one list is in the rest of the other, where the first elements are the same
rest_in : (b c : Break) (bs cs : List Break) → b ≡ c → AllByRecursion (λ d. Precedes b d) bs → ((x : Break) → Contains (b ∷ bs) x → Contains (c ∷ cs) x) → (x : Break) → Contains bs x → Contains cs x
rest_in b c bs cs same all to x here = ⊎_elim (λ is. absurd (not_first b x bs all here (same ∙ is))) (λ there. there) (in_list c x cs (to x (later b x bs here)))

-- ordered lists with the same elements are the same
one_ordered : (bs cs : List Break) → IsOrdered bs → IsOrdered cs → ((x : Break) → Contains bs x → Contains cs x) → ((x : Break) → Contains cs x → Contains bs x) → bs ≡ cs
one_ordered [] [] ordered ordered' to from = refl
one_ordered [] (c ∷ cs) ordered ordered' to from = let none = from c (first c cs) in absurd (omega (arith, none.1))
one_ordered (b ∷ bs) [] ordered ordered' to from = let none = to b (first b bs) in absurd (omega (arith, none.1))
one_ordered (b ∷ bs) (c ∷ cs) (before, ordered) (before', ordered') to from =
    let same : b ≡ c =
    ⊎_elim (λ is. sym is) (λ there. ⊎_elim (λ is. is) (λ there'. absurd (not_both c b (all_contained (λ d. Precedes c d) cs b before' there) (all_contained (λ d. Precedes b d) bs c before there')))
    (in_list b c bs (from c (first c cs)))) (in_list c b cs (to b (first b bs))) in
    let rest = one_ordered bs cs ordered ordered' (rest_in b c bs cs same before to) (rest_in c b cs bs (sym same) before' from) in
    ap (λ d. d ∷ bs) same ∙ ap (λ ds. c ∷ ds) rest

pub one_listing : (P : Break → Type 0) (bs cs : List Break) → Lists P bs → Lists P cs → bs ≡ cs
one_listing P bs cs l k = one_ordered bs cs l.ordered k.ordered (λ x here. k.all x (l.only x here)) (λ x here. l.all x (k.only x here))
