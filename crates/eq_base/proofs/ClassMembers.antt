-- Which heads belong to which class.
use Rattle.std.proofs.Common.{◌≡◌, ℕ, zero, suc, ◌+◌, ◌-◌, ◌<◌, ◌≤◌, Bool, true, false, not, ◌||◌, List, [], ◌∷◌, ◌++◌, map, length, refl, sym, ap, ◌∙◌, true≢false, if◌then◌else◌, arith, rules}
use Rattle.std.specs.Prelude.{◌↔◌, IsTrue, Contains, nat_lt, set, slice_index_or}
use Rattle.std.specs.List.{list_any, AllZip}
use Rattle.std.proofs.lemmas.Bool.{eqb-true, eq-eqb}
use Rattle.std.proofs.lemmas.Bool.Decides.{Decides-int_eq, nat_tests}
use Rattle.std.proofs.lemmas.List.{length-map, map-set, get_or_past}
use Rattle.std.proofs.Math.Seq.{map-set_same}
use Rattle.std.proofs.lemmas.Slice.Eq.{bytes_eq-Decides}
use Rattle.eq_base.specs.Pattern.{Classes}
use Rattle.eq_base.specs.ClassLists.{members_of}
use Rattle.eq_base.specs.Meeting.{same_head, in_class_by}
use Rattle.eq_base.specs.ReadHead.{ReadHead, symbol, numeral, atom, text, same_read_head}
use Rattle.eq_base.specs.contracts.head.HeadPartialEq.TheImpl.{eq-value}
use Rattle.eq_base.specs.declared.head.Head.{Head}
use Rattle.eq_base.specs.declared.head.Head.TheVariants.{Symbol, Numeral, Atom, Text}

-- ---- tests of heads

-- the test of heads is equality
pub same_head_decides : (g h : Head) → IsTrue (same_head g h) ↔ (g ≡ h)
same_head_decides (Symbol s) (Symbol t) = (λ e. ap (λ n. Symbol n) (eqb-true s t e), λ e. eq-eqb s t (cc))
same_head_decides (Symbol s) (Numeral i) = (λ e. absurd (cc), λ e. absurd (cc))
same_head_decides (Symbol s) (Atom a) = (λ e. absurd (cc), λ e. absurd (cc))
same_head_decides (Symbol s) (Text x) = (λ e. absurd (cc), λ e. absurd (cc))
same_head_decides (Numeral i) (Symbol s) = (λ e. absurd (cc), λ e. absurd (cc))
same_head_decides (Numeral i) (Numeral j) = (λ e. ap (λ n. Numeral n) ((Decides-int_eq i j).0 e), λ e. (Decides-int_eq i j).1 (cc))
same_head_decides (Numeral i) (Atom a) = (λ e. absurd (cc), λ e. absurd (cc))
same_head_decides (Numeral i) (Text x) = (λ e. absurd (cc), λ e. absurd (cc))
same_head_decides (Atom a) (Symbol s) = (λ e. absurd (cc), λ e. absurd (cc))
same_head_decides (Atom a) (Numeral i) = (λ e. absurd (cc), λ e. absurd (cc))
same_head_decides (Atom a) (Atom b) = (λ e. ap (λ n. Atom n) (eqb-true a b e), λ e. eq-eqb a b (cc))
same_head_decides (Atom a) (Text x) = (λ e. absurd (cc), λ e. absurd (cc))
same_head_decides (Text x) (Symbol s) = (λ e. absurd (cc), λ e. absurd (cc))
same_head_decides (Text x) (Numeral i) = (λ e. absurd (cc), λ e. absurd (cc))
same_head_decides (Text x) (Atom a) = (λ e. absurd (cc), λ e. absurd (cc))
same_head_decides (Text x) (Text y) = (λ e. ap (λ n. Text n) (eqb-true x y e), λ e. eq-eqb x y (cc))

derived_same : (g h : Head) → eq-value.it g h ≡ same_head g h
derived_same g h = search rules

-- and so is the derived one
pub derived_decides : (g h : Head) → IsTrue (eq-value.it g h) ↔ (g ≡ h)
derived_decides g h = (λ e. (same_head_decides g h).0 (sym (derived_same g h) ∙ e), λ e. derived_same g h ∙ (same_head_decides g h).1 e)

-- and that of read heads
pub same_read_head_decides : (g h : ReadHead) → IsTrue (same_read_head g h) ↔ (g ≡ h)
same_read_head_decides (symbol s) (symbol t) = (λ e. ap symbol (eqb-true s t e), λ e. eq-eqb s t (cc))
same_read_head_decides (symbol s) (numeral i) = (λ e. absurd (cc), λ e. absurd (cc))
same_read_head_decides (symbol s) (atom a) = (λ e. absurd (cc), λ e. absurd (cc))
same_read_head_decides (symbol s) (text x) = (λ e. absurd (cc), λ e. absurd (cc))
same_read_head_decides (numeral i) (symbol s) = (λ e. absurd (cc), λ e. absurd (cc))
same_read_head_decides (numeral i) (numeral j) = (λ e. ap numeral ((Decides-int_eq i j).0 e), λ e. (Decides-int_eq i j).1 (cc))
same_read_head_decides (numeral i) (atom a) = (λ e. absurd (cc), λ e. absurd (cc))
same_read_head_decides (numeral i) (text x) = (λ e. absurd (cc), λ e. absurd (cc))
same_read_head_decides (atom a) (symbol s) = (λ e. absurd (cc), λ e. absurd (cc))
same_read_head_decides (atom a) (numeral i) = (λ e. absurd (cc), λ e. absurd (cc))
same_read_head_decides (atom a) (atom b) = (λ e. ap atom ((bytes_eq-Decides a b).0 e), λ e. (bytes_eq-Decides a b).1 (cc))
same_read_head_decides (atom a) (text x) = (λ e. absurd (cc), λ e. absurd (cc))
same_read_head_decides (text x) (symbol s) = (λ e. absurd (cc), λ e. absurd (cc))
same_read_head_decides (text x) (numeral i) = (λ e. absurd (cc), λ e. absurd (cc))
same_read_head_decides (text x) (atom a) = (λ e. absurd (cc), λ e. absurd (cc))
same_read_head_decides (text x) (text y) = (λ e. ap text ((bytes_eq-Decides x y).0 e), λ e. (bytes_eq-Decides x y).1 (cc))

-- two tests that tell each other are the same
pub same_tests : (a b : Bool) → (IsTrue a → IsTrue b) → (IsTrue b → IsTrue a) → a ≡ b
same_tests true b f g = sym (f refl)
same_tests false true f g = g refl
same_tests false false f g = refl

-- a test that tells a property tells by its opposite that it is missing
pub not_tells : {P : Type 0} (b : Bool) → IsTrue b ↔ P → IsTrue (not b) ↔ (¬ P)
not_tells true tells = (λ e. absurd (true≢false (sym e)), λ none. absurd (none (tells.0 refl)))
not_tells false tells = (λ e p. true≢false (sym (tells.1 p)), λ none. refl)

-- ---- members

module _ {H : Type 0} (same : H → H → Bool) (decides : (g h : H) → IsTrue (same g h) ↔ (g ≡ h)) where
  any_at : (hs : List H) (h : H) (n : ℕ) → n < length hs → slice_index_or hs n h ≡ h → list_any (same h) hs ≡ true
  any_at [] h n lt e = absurd (omega arith)
  any_at (g ∷ hs) h zero lt e = ap (λ b. b || list_any (same h) hs) ((decides h g).1 (sym e))
  any_at (g ∷ hs) h (suc n) lt e = by_test (same h g) (any_at hs h n (omega arith) e)
    where
      by_test : (b : Bool) → list_any (same h) hs ≡ true → (b || list_any (same h) hs) ≡ true
      by_test true rest = refl
      by_test false rest = rest

  at_any : (hs : List H) (h : H) → list_any (same h) hs ≡ true → Contains hs h
  at_any [] h e = absurd (true≢false (sym e))
  at_any (g ∷ hs) h e = by_test (same h g) ((decides h g).0) e (at_any hs h)
    where
      by_test : (b : Bool) → (IsTrue b → h ≡ g) → (b || list_any (same h) hs) ≡ true → (list_any (same h) hs ≡ true → Contains hs h) → Contains (g ∷ hs) h
      by_test true here any rest = (0, omega arith, sym (here refl))
      by_test false here any rest = let c = rest any in (suc c.0, omega (arith, c.1), c.2)

  -- a list has a head that is the same where it contains the head
  pub any_same : (hs : List H) (h : H) → IsTrue (list_any (same h) hs) ↔ Contains hs h
  any_same hs h = (at_any hs h, λ c. any_at hs h c.0 c.1 c.2)

  module _ (in_symbols : Classes H) (classes : List (List H)) where
    -- up to 3 a class has the heads of the symbol class
    pub symbol_class : (class : ℕ) (h : H) → class < 4 → in_class_by in_symbols same classes class h ≡ in_symbols class h
    symbol_class class h lt =
        let e : nat_lt class 4 ≡ true = grind (arith, nat_tests) in
        ap (λ b. if b then in_symbols class h else list_any (same h) (members_of classes class)) e

    listed_as : (class : ℕ) (h : H) → 4 ≤ class → in_class_by in_symbols same classes class h ≡ list_any (same h) (members_of classes class)
    listed_as class h le =
        let e : nat_lt class 4 ≡ false = grind (arith, nat_tests) in
        ap (λ b. if b then in_symbols class h else list_any (same h) (members_of classes class)) e

    -- from 4 on it has exactly the heads that the class of the file lists
    pub listed_class : (class : ℕ) (h : H) → 4 ≤ class → IsTrue (in_class_by in_symbols same classes class h) ↔ Contains (members_of classes class) h
    listed_class class h le =
        (λ i. (any_same (members_of classes class) h).0 (sym (listed_as class h le) ∙ i), λ c. listed_as class h le ∙ (any_same (members_of classes class) h).1 c)

-- past the last class none is listed
pub past_classes : {H : Type 0} (classes : List (List H)) (class : ℕ) → 4 + length classes ≤ class → members_of classes class ≡ []
past_classes classes class past = get_or_past classes (class - 4) [] (omega arith)

-- ---- sets of heads

module _ {S H : Type 0} (keys : S → List H) where
  -- the members of a class are the keys of its set
  pub keys-there : (sets : List S) (n : ℕ) (s : S) → n < length sets → s ≡ slice_index_or sets n s → slice_index_or (map keys sets) n [] ≡ keys s
  keys-there [] n s lt at = absurd (omega arith)
  keys-there (t ∷ sets) zero s lt at = ap keys (sym at)
  keys-there (t ∷ sets) (suc n) s lt at = keys-there sets n s (omega arith) at

  -- each class has a set
  pub set-there : (sets : List S) (class : ℕ) → 4 ≤ class → class < 4 + length (map keys sets) → class - 4 < length sets
  set-there sets class first known = omega (arith, first, known, length-map sets keys)

  -- a set with as many keys as before changes no class
  pub keys-kept : (sets : List S) (n : ℕ) (s new : S) → keys new ≡ keys s → s ≡ slice_index_or sets n s → map keys (set sets n new) ≡ map keys sets
  keys-kept sets n s new same at = map-set_same keys sets n new s (same ∙ ap keys at)

  -- a set with one more key is a class with one more member
  pub keys-added : (sets : List S) (n : ℕ) (s new : S) (there : Bool) (h : H) → n < length sets → s ≡ slice_index_or sets n s
      → keys new ≡ (if there then keys s else keys s ++ h ∷ [])
      → map keys (set sets n new) ≡ (if not there then set (map keys sets) n (slice_index_or (map keys sets) n [] ++ h ∷ []) else map keys sets)
  keys-added sets n s new true h lt at is = keys-kept sets n s new is at
  keys-added sets n s new false h lt at is =
      map-set keys sets n new ∙ ap (λ l. set (map keys sets) n l) (is ∙ ap (λ l. l ++ h ∷ []) (sym (keys-there sets n s lt at)))

  -- sets with the same keys are the same classes
  pub keys-copied : (R : S → S → Type 0) → ((s t : S) → R s t → keys t ≡ keys s) → (sets copies : List S) → AllZip R sets copies → map keys copies ≡ map keys sets
  keys-copied R each [] [] all = refl
  keys-copied R each [] (t ∷ copies) all = absurd all
  keys-copied R each (s ∷ sets) [] all = absurd all
  keys-copied R each (s ∷ sets) (t ∷ copies) all = rw (each s t all.0, keys-copied R each sets copies all.1) refl

-- ---- heads that are read otherwise

module _ {A B : Type 0} (same_a : A → A → Bool) (same_b : B → B → Bool) (f : A → B) where
  any-map : (hs : List A) (h : A) → ((g : A) → Contains hs g → same_b (f h) (f g) ≡ same_a h g) → list_any (same_b (f h)) (map f hs) ≡ list_any (same_a h) hs
  any-map [] h alike = refl
  any-map (g ∷ hs) h alike =
      rw (alike g (0, omega arith, refl), any-map hs h (λ k c. alike k (suc c.0, omega (arith, c.1), c.2))) refl

  members-map : (classes : List (List A)) (n : ℕ) → slice_index_or (map (λ hs. map f hs) classes) n [] ≡ map f (slice_index_or classes n [])
  members-map [] n = refl
  members-map (hs ∷ classes) zero = refl
  members-map (hs ∷ classes) (suc n) = members-map classes n

  -- a head belongs to the same classes where it is the same as their members before and after
  pub class-map : (in_a : Classes A) (in_b : Classes B) (classes : List (List A)) (class : ℕ) (h : A) → in_b class (f h) ≡ in_a class h
      → ((g : A) → Contains (members_of classes class) g → same_b (f h) (f g) ≡ same_a h g)
      → in_class_by in_b same_b (map (λ hs. map f hs) classes) class (f h) ≡ in_class_by in_a same_a classes class h
  class-map in_a in_b classes class h symbols alike =
      rw (symbols, members-map classes (class - 4), any-map (members_of classes class) h alike) refl
