use Rattle.std.proofs.Common.{◌≡◌, ◌↔◌, ℕ, List, map, Option, Some, None, true, false, true≢false, inl, refl, subst, sym, ap, ◌∙◌}
use Rattle.std.specs.Prelude.{Contains, is_some, slice_get}
use Rattle.std.proofs.lemmas.Option.{slice_get-get_or}
use Rattle.def_file.specs.Names.{token_bytes}
use Rattle.def_file.proofs.Namings.{contains_at}
use Rattle.def_file.proofs.naming.conditions.take_qualified.Goals as goal

-- what is found is listed
listed : (names : List (List ℕ)) (name : List ℕ) (found : Option ℕ) → ((k : ℕ) → (found ≡ Some k) ↔ (slice_get names k ≡ Some name)) → is_some found ≡ true → Contains names name
listed names name None exact some = absurd (true≢false (sym some))
listed names name (Some k) exact some = contains_at names k name ((exact k).0 refl)

-- and what is not, is not
unlisted : (names : List (List ℕ)) (name : List ℕ) (found : Option ℕ) → ((k : ℕ) → (found ≡ Some k) ↔ (slice_get names k ≡ Some name)) → is_some found ≡ false → Contains names name → ⊥
unlisted names name found exact none (k, lt, is) =
    let there : found ≡ Some k = (exact k).1 (slice_get-get_or names k name lt ∙ ap Some is) in
    true≢false (sym (ap is_some there) ∙ none)

pub returns-then-is_some-clause-taking : goal.returns-then-is_some-clause-taking
returns-then-is_some-clause-taking c = λ syntax table operations before is.
    let bytes = token_bytes c.args.text.now c.args.name in
    let found = contains_at c.args.listed.now.variables c.in-Some.variable c.bytes_of-bytes.result.now ((c.in-Some.ensures.listed c.in-Some.variable).0 refl) in
    let here = subst (Contains c.args.listed.now.variables) c.bytes_of-bytes.ensures found in
    let twice = listed c.args.qualified.now c.bytes_of-bytes.result.now c.find-2.result c.find-2.ensures.listed (sym c.is_some.ensures ∙ c.if-is_some.true) in
    let there = subst (λ names. Contains names bytes) is (subst (Contains c.args.qualified.now) c.bytes_of-bytes.ensures twice) in
    rw c.refused-then-is_some.ensures (inl ((here, there), refl))

pub returns-clause-taking : goal.returns-clause-taking
returns-clause-taking c = λ syntax table operations before is.
    let bytes = token_bytes c.args.text.now c.args.name in
    let found = contains_at c.args.listed.now.variables c.in-Some.variable c.bytes_of-bytes.result.now ((c.in-Some.ensures.listed c.in-Some.variable).0 refl) in
    let here = subst (Contains c.args.listed.now.variables) c.bytes_of-bytes.ensures found in
    let new : Contains (map (token_bytes c.args.text.now) before) bytes → ⊥ =
    λ has. unlisted c.args.qualified.now c.bytes_of-bytes.result.now c.find-2.result c.find-2.ensures.listed (sym c.is_some.ensures ∙ c.if-is_some.false)
    (subst (Contains c.args.qualified.now) (sym c.bytes_of-bytes.ensures) (subst (λ names. Contains names bytes) (sym is) has)) in
    (_, (here, new, refl), refl)
