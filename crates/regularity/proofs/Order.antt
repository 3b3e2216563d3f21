-- Lists of breaks that grow in their order.
use Rattle.std.proofs.Common.{◌≡◌, ℕ, zero, suc, ◌+◌, ◌<◌, ◌≤◌, ◌⊎◌, inl, inr, List, [], ◌∷◌, ◌++◌, Some, refl, sym, ◌∙◌, ap, subst, arith, ⊎_elim}
use Rattle.std.specs.Prelude.{◌↔◌, Contains, slice_get}
use Rattle.std.proofs.lemmas.Bool.{cases_lt}
use Rattle.std.proofs.lemmas.Option.{slice_get_within, get_or_from_slice_get, slice_get-get_or}
use Rattle.std.specs.List.{AllByRecursion}
use Rattle.std.proofs.lemmas.List.Elements.{Contains-append_left, Contains-append_right, Contains-append_cases, Contains-push}
use Rattle.eq_base.proofs.Lists.{all_push, all_at, all_both}
use Rattle.regularity.specs.Listing.{Precedes, IsOrdered, Lists, break_at}
use Rattle.regularity.specs.Looking.{ListsBefore}
use Rattle.regularity.specs.declared.breaks.Break.{Break}
use Rattle.regularity.proofs.Faces.{contains_here}

pub same_break : (b : Break) (r f p s : ℕ) → b.restriction ≡ r → b.first ≡ f → b.place ≡ p → b.second ≡ s → b ≡ break_at r f p s
same_break b r f p s e g h k = rw (← e, ← g, ← h, ← k) refl

-- the break with the next second equation comes right behind this one
next_second : (b : Break) (r f p s : ℕ) → Precedes b (break_at r f p (s + 1)) → Precedes b (break_at r f p s) ⊎ ((b.restriction ≡ r) × (b.first ≡ f) × (b.place ≡ p) × (b.second ≡ s))
next_second b r f p s h = grind arith

-- ---- elements and order of lists

contains_tail : (b c : Break) (bs : List Break) → Contains bs b → Contains (c ∷ bs) b
contains_tail b c bs h = Contains-append_right (c ∷ []) bs b h

contains_only : (b c : Break) → Contains (c ∷ []) b → b ≡ c
contains_only b c h = sym (contains_here b c h)

ordered_push : (bs : List Break) (c : Break) → IsOrdered bs → ((b : Break) → Contains bs b → Precedes b c) → IsOrdered (bs ++ c ∷ [])
ordered_push [] c o before = (tt, tt)
ordered_push (b ∷ bs) c o before = (all_push (λ d. Precedes b d) bs c o.0 (before b (0, omega arith, refl)), ordered_push bs c o.1 (λ d h. before d (contains_tail d b bs h)))

-- ---- lists up to a break

pub lists_same : (P Q : Break → Type 0) (bs : List Break) → ((b : Break) → P b → Q b) → ((b : Break) → Q b → P b) → Lists P bs → Lists Q bs
lists_same P Q bs to from l = record { only = λ b h. to b (l.only b h); all = λ b h. l.all b (from b h); ordered = l.ordered }

-- the list of the breaks with a property is that of those with one that holds of the same breaks
pub lists_either : (P Q : Break → Type 0) (bs : List Break) → ((b : Break) → P b ↔ Q b) → Lists P bs ↔ Lists Q bs
lists_either P Q bs same = (lists_same P Q bs (λ b. (same b).0) (λ b. (same b).1), lists_same Q P bs (λ b. (same b).1) (λ b. (same b).0))

lists_push : (P Q : Break → Type 0) (bs : List Break) (c : Break) → Lists P bs → ((b : Break) → P b → Precedes b c) → ((b : Break) → P b → Q b) → Q c → ((b : Break) → Q b → P b ⊎ (b ≡ c)) → Lists Q (bs ++ c ∷ [])
lists_push P Q bs c l before to here from = record {
  only = λ b h. ⊎_elim (λ old. to b (l.only b old)) (λ new. subst Q (sym (contains_only b c new)) here) (Contains-append_cases bs (c ∷ []) b h);
  all = λ b h. ⊎_elim (λ old. Contains-append_left bs (c ∷ []) b (l.all b old)) (λ same. subst (Contains (bs ++ c ∷ [])) (sym same) (Contains-push bs c)) (from b h);
  ordered = ordered_push bs c l.ordered (λ b h. before b (l.only b h));
}

module _ (P : Break → Type 0) where
  -- those before one place are those before another
  pub lists_moved : (r f p s r' f' p' s' : ℕ) (bs : List Break) → ((b : Break) → P b → Precedes b (break_at r f p s) ↔ Precedes b (break_at r' f' p' s')) → ListsBefore P r f p s bs → ListsBefore P r' f' p' s' bs
  lists_moved r f p s r' f' p' s' bs same l = lists_same _ _ bs (λ b h. (h.0, (same b h.0).0 h.1)) (λ b h. (h.0, (same b h.0).1 h.1)) l

  module _ (r f p s : ℕ) (bs : List Break) (l : ListsBefore P r f p s bs) where
    later : (b : Break) → Precedes b (break_at r f p s) → Precedes b (break_at r f p (s + 1))
    later b h = grind arith

    pub lists_found : P (break_at r f p s) → ListsBefore P r f p (s + 1) (bs ++ break_at r f p s ∷ [])
    lists_found here =
        lists_push (λ b. P b × Precedes b (break_at r f p s)) (λ b. P b × Precedes b (break_at r f p (s + 1))) bs (break_at r f p s) l
        (λ b h. h.1)
        (λ b h. (h.0, later b h.1))
        (here, inr (refl, inr (refl, inr (refl, omega arith))))
        (λ b h. ⊎_elim (λ before. inl (h.0, before)) (λ is. inr (same_break b r f p s is.0 is.1 is.2 is.3)) (next_second b r f p s h.1))

    pub lists_missed : (P (break_at r f p s) → ⊥) → ListsBefore P r f p (s + 1) bs
    lists_missed none =
        lists_same _ (λ b. P b × Precedes b (break_at r f p (s + 1))) bs
        (λ b h. (h.0, later b h.1))
        (λ b h. (h.0, ⊎_elim (λ before. before) (λ is. absurd (none (subst P (same_break b r f p s is.0 is.1 is.2 is.3) h.0))) (next_second b r f p s h.1)))
        l

-- ---- from place to place

module _ (P : Break → Type 0) (bs : List Break) where
  -- at this place the second equations begin with s
  pub lists_from : (r f p s : ℕ) → ((b : Break) → P b → b.restriction ≡ r → b.first ≡ f → b.place ≡ p → s ≤ b.second) → ListsBefore P r f p 0 bs → ListsBefore P r f p s bs
  lists_from r f p s from l = lists_moved P r f p 0 r f p s bs (λ b h. let least = from b h in (λ before. grind arith, λ before. grind arith)) l

  -- the second equations at this place are done
  pub lists_next_place : (r f p s : ℕ) → ((b : Break) → P b → b.restriction ≡ r → b.first ≡ f → b.place ≡ p → b.second < s) → ListsBefore P r f p s bs → ListsBefore P r f (p + 1) 0 bs
  lists_next_place r f p s below l = lists_moved P r f p s r f (p + 1) 0 bs (λ b h. let most = below b h in (λ before. grind arith, λ before. grind arith)) l

  -- the places of this first equation are done
  pub lists_next_first : (r f p : ℕ) → ((b : Break) → P b → b.restriction ≡ r → b.first ≡ f → b.place < p) → ListsBefore P r f p 0 bs → ListsBefore P r (f + 1) 0 0 bs
  lists_next_first r f p below l = lists_moved P r f p 0 r (f + 1) 0 0 bs (λ b h. let most = below b h in (λ before. grind arith, λ before. grind arith)) l

  -- the first equations of this restriction are done
  pub lists_next_restriction : (r f : ℕ) → ((b : Break) → P b → b.restriction ≡ r → b.first < f) → ListsBefore P r f 0 0 bs → ListsBefore P (r + 1) 0 0 0 bs
  lists_next_restriction r f below l = lists_moved P r f 0 0 (r + 1) 0 0 0 bs (λ b h. let most = below b h in (λ before. grind arith, λ before. grind arith)) l

  -- all restrictions are done
  pub lists_end : (r : ℕ) → ((b : Break) → P b → b.restriction < r) → ListsBefore P r 0 0 0 bs → Lists P bs
  lists_end r below l = lists_same _ P bs (λ b h. h.0) (λ b h. (h, inl (below b h))) l

-- ---- search in an ordered list

not_itself : (b : Break) → Precedes b b → ⊥
not_itself b h = grind arith

pub not_both : (b c : Break) → Precedes b c → Precedes c b → ⊥
not_both b c h k = grind arith

all_get : (P : Break → Type 0) (bs : List Break) (k : ℕ) (b : Break) → AllByRecursion P bs → slice_get bs k ≡ Some b → P b
all_get P bs k b all there = subst P (get_or_from_slice_get bs k b b there) (all_at P bs k b (slice_get_within bs k b there) all)

ordered_at : (bs : List Break) (i j : ℕ) (b c : Break) → IsOrdered bs → i < j → slice_get bs i ≡ Some b → slice_get bs j ≡ Some c → Precedes b c
ordered_at [] i j b c o lt e e' = cc
ordered_at (d ∷ bs) i zero b c o lt e e' = absurd (omega arith)
ordered_at (d ∷ bs) zero (suc j) b c o lt e e' = let same : d ≡ b = cc in subst (λ x. Precedes x c) same (all_get (λ x. Precedes d x) bs j c o.0 e')
ordered_at (d ∷ bs) (suc i) (suc j) b c o lt e e' = ordered_at bs i j b c o.1 (omega arith) e e'

-- of two breaks one comes before the other, or they are the same
pub neither_precedes : (b c : Break) → (Precedes b c → ⊥) → (Precedes c b → ⊥) → b ≡ c
neither_precedes b c less more =
    let restriction : b.restriction ≡ c.restriction = grind arith in
    let first : b.first ≡ c.first = grind arith in
    let place : b.place ≡ c.place = grind arith in
    let second : b.second ≡ c.second = grind arith in
    same_break b c.restriction c.first c.place c.second restriction first place second

module _ (bs : List Break) (o : IsOrdered bs) (m k : ℕ) (here wanted : Break) (at : slice_get bs m ≡ Some here) (there : slice_get bs k ≡ Some wanted) where
  same_number : k ≡ m → wanted ≡ here
  same_number e = let again = ap (slice_get bs) e in cc

  pub behind : Precedes here wanted → m + 1 ≤ k
  behind less =
      ⊎_elim
      (λ below. absurd (not_both here wanted less (ordered_at bs k m wanted here o below there at)))
      (λ past. ⊎_elim (λ after. omega arith) (λ same. absurd (let e : k ≡ m = omega arith in not_itself here (subst (λ b. Precedes here b) (same_number e) less))) (cases_lt m k))
      (cases_lt k m)

  pub in_front : Precedes wanted here → k < m
  in_front less =
      ⊎_elim
      (λ below. below)
      (λ past. ⊎_elim (λ after. absurd (not_both wanted here less (ordered_at bs m k here wanted o after at there))) (λ same. absurd (let e : k ≡ m = omega arith in not_itself here (subst (λ b. Precedes b here) (same_number e) less))) (cases_lt m k))
      (cases_lt k m)

-- an element is at some number
pub contains_get : (bs : List Break) (b : Break) → Contains bs b → (k : ℕ) × (slice_get bs k ≡ Some b)
contains_get bs b c = (c.0, slice_get-get_or bs c.0 b c.1 ∙ ap (λ x. Some x) c.2)

pub get_contains : (bs : List Break) (k : ℕ) (b : Break) → slice_get bs k ≡ Some b → Contains bs b
get_contains bs k b e = (k, slice_get_within bs k b e, get_or_from_slice_get bs k b b e)

-- ---- one list behind another

all_contained_in : (P : Break → Type 0) (bs : List Break) → ((b : Break) → Contains bs b → P b) → AllByRecursion P bs
all_contained_in P [] each = tt
all_contained_in P (b ∷ bs) each = (each b (0, omega arith, refl), all_contained_in P bs (λ c h. each c (contains_tail c b bs h)))

ordered_append : (bs cs : List Break) → IsOrdered bs → IsOrdered cs → ((b c : Break) → Contains bs b → Contains cs c → Precedes b c) → IsOrdered (bs ++ cs)
ordered_append [] cs o o' before = o'
ordered_append (b ∷ bs) cs o o' before = (
  all_both (λ d. Precedes b d) bs cs o.0 (all_contained_in (λ d. Precedes b d) cs (λ c h. before b c (0, omega arith, refl) h)),
  ordered_append bs cs o.1 o' (λ d c h k. before d c (contains_tail d b bs h) k),
)

pub lists_append : (P Q : Break → Type 0) (bs cs : List Break) → Lists P bs → Lists Q cs → ((b c : Break) → P b → Q c → b.restriction < c.restriction) → Lists (λ b. P b ⊎ Q b) (bs ++ cs)
lists_append P Q bs cs l m before = record {
  only = λ b h. ⊎_elim (λ first. inl (l.only b first)) (λ second. inr (m.only b second)) (Contains-append_cases bs cs b h);
  all = λ b h. ⊎_elim (λ p. Contains-append_left bs cs b (l.all b p)) (λ q. Contains-append_right bs cs b (m.all b q)) h;
  ordered = ordered_append bs cs l.ordered m.ordered (λ b c h k. inl (before b c (l.only b h) (m.only c k)));
}
