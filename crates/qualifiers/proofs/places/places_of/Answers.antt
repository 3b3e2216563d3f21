use Rattle.std.proofs.Common.{arith}
use Rattle.std.specs.Prelude.{nat_eq}
use Rattle.std.proofs.lemmas.Bool.{ne_eqb}
use Rattle.std.proofs.lemmas.Option.{slice_get_within}
use Rattle.indexmap.specs.IndexMap.{get}
use Rattle.qualifiers.proofs.PlacesOf.{place_more}
use Rattle.qualifiers.proofs.places.places_of.Goals as goal

pub loop-place-preserved : goal.loop-place-preserved
loop-place-preserved c =
    let qs = c.args.qualifiers.now in
    let q = c.get.result.now in
    let new = c.insert.new.self in
    let updates = c.in_ok-insert.ensures.updates in
    place_more qs c.requires (get nat_eq c.loop-place.places) (get nat_eq new) c.loop-place.place q c.get.ensures updates.1 (λ x other. updates.2 x (ne_eqb q.variable x other)) c.loop-place.invariant

pub returns : goal.returns
returns c = λ x p. (
  λ e. ((c.loop-place.invariant x p).0 e).0,
  λ is. (c.loop-place.invariant x p).1 (is, omega (arith, slice_get_within c.args.qualifiers.now p is.0 is.1, c.loop-place-test.false)),
)
