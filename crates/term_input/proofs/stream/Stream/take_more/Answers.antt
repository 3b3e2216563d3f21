use Rattle.std.proofs.Common.{◌≡◌, ◌≤◌, ◌+◌, ℕ, List, [], length, drop, arith, refl, sym, subst, append-nil, length-drop, vec_len}
use Rattle.std.proofs.KnownBytes.{Consumes-nil}
use Rattle.term_input.specs.Streams.{Held, taken_count, MayTake}
use Rattle.term_input.proofs.stream.Stream.take_more.Goals as goal

-- bytes behind a start, and the place of the first of them
within_limit : (bytes : List ℕ) (count start place limit : ℕ) → count ≡ length bytes → start ≤ count → place + count ≤ start + (limit + 1) → place + length (drop start bytes) ≤ limit + 1
within_limit bytes count start place limit is le fits = omega (arith, is, le, fits, length-drop start bytes)

pub returns-then-not-may_take-clause-takes : goal.returns-then-not-may_take-clause-takes
returns-then-not-may_take-clause-takes g c =
    let inside = c.self.inside in
    let fits = within_limit inside.bytes.items (vec_len inside.bytes) inside.start inside.place inside.limit inside.bytes.ok.0 c.self.invariant.0 c.self.invariant.2 in
    record {
      taken = [];
      consumed = Consumes-nil (g.S.Source.left c.args.source.now);
      bytes = sym (append-nil c.args.self.now.bytes);
      place = refl;
      limit = refl;
      within = subst (λ (held : Held). taken_count held ≤ held.limit + 1) c.self.view_is fits;
      some = λ may _. absurd (no may);
      at_end = λ may _. absurd (no may);
      unchanged = λ _. (refl, refl);
    }
  where
    no : MayTake c.args.self.now → ⊥
    no may = let yes = c.may_take.ensures.1 may in let not = c.if-not-may_take.true in cc (yes, not)
