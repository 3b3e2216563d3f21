use Rattle.std.proofs.Common.{List, ℕ, ◌<◌, ◌++◌, ◌∷◌, [], take, length, get_or, set, true, false, ◌≡◌, sym, ◌∙◌, subst, arith}
use Rattle.std.proofs.lemmas.List.{take_more, get_or_default}
use Rattle.qualifiers.specs.Graphs.{Sees}
use Rattle.qualifiers.proofs.Searching.{sees_again, sees_more}
use Rattle.qualifiers.proofs.reaching.Search.see.Goals as goal

pub loop-place-preserved-then-index : goal.loop-place-preserved-then-index
loop-place-preserved-then-index c =
    let l = c.loop-place in
    let places = c.args.places.now in
    let p = get_or places l.place-index 0 in
    let lt : p < length l.self.seen.items = omega (arith, c.requires l.place-index 0 c.loop-place-test.true, l.invariant.long) in
    let is : get_or l.self.seen.items p false ≡ true = get_or_default l.self.seen.items p false c.index.result.now lt ∙ sym c.index.ensures ∙ c.if-index.true in
    subst (λ (ps : List ℕ). Sees ps c.args.self.now.seen.items l.self.seen.items c.args.self.now.pending.items l.self.pending.items) (sym (take_more places l.place-index 0 (omega arith)))
    (sees_again _ _ _ _ _ l.invariant p is)

pub loop-place-preserved : goal.loop-place-preserved
loop-place-preserved c =
    let l = c.loop-place in
    let places = c.args.places.now in
    let p = get_or places l.place-index 0 in
    let front = take l.place-index places ++ p ∷ [] in
    let lt : p < length l.self.seen.items = omega (arith, c.requires l.place-index 0 c.loop-place-test.true, l.invariant.long) in
    let not : get_or l.self.seen.items p false ≡ false = get_or_default l.self.seen.items p false c.index.result.now lt ∙ sym c.index.ensures ∙ c.if-index.false in
    let new = set l.self.seen.items p true in
    subst (λ (ps : List ℕ). Sees ps c.args.self.now.seen.items new c.args.self.now.pending.items c.push.new.self.items) (sym (take_more places l.place-index 0 (omega arith)))
    (subst (λ (later : List ℕ). Sees front c.args.self.now.seen.items new c.args.self.now.pending.items later) (sym c.in_ok-push.ensures.items)
    (sees_more _ _ _ _ _ l.invariant p lt not))
