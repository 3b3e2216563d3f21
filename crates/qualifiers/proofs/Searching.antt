-- What a search has seen: all that can be reached, once nothing is left to be looked at.
use Rattle.std.proofs.Common.{◌≡◌, ℕ, zero, suc, ◌<◌, ◌⊎◌, inl, inr, List, [], ◌∷◌, ◌++◌, length, set, get_or, replicate, Some, refl, sym, ap, ◌∙◌, subst, arith, length-append, ⊎_elim, Bool, true, false}
use Rattle.std.specs.Prelude.{Contains, All, slice_get}
use Rattle.std.specs.Global.{Vec}
use Rattle.std.proofs.lemmas.Bool.{cases_eq, false≢true}
use Rattle.std.proofs.lemmas.List.{get_or-set_other, get_or-set_same, length-set}
use Rattle.std.proofs.lemmas.Option.{slice_get-get_or}
use Rattle.std.proofs.lemmas.List.Elements.{Contains-append_left, Contains-push, Contains-push_cases, Contains-get_or}
use Rattle.qualifiers.specs.Replacing.{Chain, one, more}
use Rattle.qualifiers.specs.Graphs.{Follows, LeadsOn, IsWithin, IsSeen, unseen, Sees}
use Rattle.qualifiers.proofs.Dependence.{chain_then}
use Rattle.qualifiers.proofs.Members.{contains_none}

-- ---- places seen one after another

unseen-set : (seen : List Bool) (i : ℕ) → i < length seen → get_or seen i false ≡ false → suc (unseen (set seen i true)) ≡ unseen seen
unseen-set [] i lt is = absurd (omega arith)
unseen-set (true ∷ seen) zero lt is = cc
unseen-set (false ∷ seen) zero lt is = refl
unseen-set (true ∷ seen) (suc i) lt is = unseen-set seen i (omega arith) is
unseen-set (false ∷ seen) (suc i) lt is = ap suc (unseen-set seen i (omega arith) is)

pub sees_none : (seen : List Bool) (pending : List ℕ) → Sees [] seen seen pending pending
sees_none seen pending = record {
  long = refl;
  kept = λ j is. is;
  all = λ j c. absurd (contains_none j c);
  only = λ j is. inl is;
  stays = λ j c. c;
  laid = λ j is. inl is;
  few = λ j c. inl c;
  even = refl;
}

module _ (places : List ℕ) (seen new : List Bool) (pending later : List ℕ) (s : Sees places seen new pending later) (p : ℕ) where
  -- one of the places, or the next one
  wider : (A : Type 0) (j : ℕ) → A ⊎ Contains places j → A ⊎ Contains (places ++ p ∷ []) j
  wider A j h = ⊎_elim (λ a. inl a) (λ c. inr (Contains-append_left places (p ∷ []) j c)) h

  -- a place that was seen
  pub sees_again : IsSeen new p → Sees (places ++ p ∷ []) seen new pending later
  sees_again is = record {
    long = s.long;
    kept = s.kept;
    all = λ j c. ⊎_elim (λ before. s.all j before) (λ same. subst (IsSeen new) same is) (Contains-push_cases places p j c);
    only = λ j now. wider (IsSeen seen j) j (s.only j now);
    stays = s.stays;
    laid = s.laid;
    few = λ j c. wider (Contains pending j) j (s.few j c);
    even = s.even;
  }

  -- a place that was not
  module _ (lt : p < length new) (not : get_or new p false ≡ false) where
    here : IsSeen (set new p true) p
    here = get_or-set_same new p true false lt

    still : (j : ℕ) → IsSeen new j → IsSeen (set new p true) j
    still j is = ⊎_elim (λ same. subst (IsSeen (set new p true)) (sym same) here) (λ other. get_or-set_other new p j true false other ∙ is) (cases_eq j p)

    before : (j : ℕ) → IsSeen (set new p true) j → (p ≡ j) ⊎ IsSeen new j
    before j is = ⊎_elim (λ same. inl (sym same)) (λ other. inr (sym (get_or-set_other new p j true false other) ∙ is)) (cases_eq j p)

    pub sees_more : Sees (places ++ p ∷ []) seen (set new p true) pending (later ++ p ∷ [])
    sees_more = record {
      long = length-set new p true ∙ s.long;
      kept = λ j is. still j (s.kept j is);
      all = λ j c. ⊎_elim (λ earlier. still j (s.all j earlier)) (λ same. subst (IsSeen (set new p true)) same here) (Contains-push_cases places p j c);
      only = λ j now. ⊎_elim (λ same. inr (subst (Contains (places ++ p ∷ [])) same (Contains-push places p))) (λ is. wider (IsSeen seen j) j (s.only j is)) (before j now);
      stays = λ j c. Contains-append_left later (p ∷ []) j (s.stays j c);
      laid = λ j now.
          ⊎_elim
          (λ same. inr (subst (Contains (later ++ p ∷ [])) same (Contains-push later p)))
          (λ is. ⊎_elim (λ was. inl was) (λ c. inr (Contains-append_left later (p ∷ []) j c)) (s.laid j is))
          (before j now);
      few = λ j c.
          ⊎_elim
          (λ c'. wider (Contains pending j) j (s.few j c'))
          (λ same. inr (subst (Contains (places ++ p ∷ [])) same (Contains-push places p)))
          (Contains-push_cases later p j c);
      even = omega (arith, s.even, unseen-set new p lt not, length-append later (p ∷ []));
    }

pub none_seen : (seen : List Bool) (n : ℕ) → seen ≡ replicate n false → (j : ℕ) → IsSeen seen j → ⊥
none_seen seen n all j is = false≢true (sym (none n j) ∙ ap (λ (l : List Bool). get_or l j false) (sym all) ∙ is)
  where
    none : (n j : ℕ) → get_or (replicate n false) j false ≡ false
    none zero j = refl
    none (suc n) zero = refl
    none (suc n) (suc j) = none n j

-- ---- a search

-- what was seen can be reached, and all that follows it was seen or is still to come
pub record IsSearch (graph : List (Vec ℕ)) (start : ℕ) (seen : List Bool) (pending : List ℕ) : Type 0 where
  pub long : length seen ≡ length graph
  pub reached : (j : ℕ) → IsSeen seen j → LeadsOn graph start j
  pub coming : (j : ℕ) → Contains pending j → LeadsOn graph start j
  pub first : (j : ℕ) → Follows graph start j → IsSeen seen j
  pub closed : (i j : ℕ) → IsSeen seen i → Follows graph i j → Contains pending i ⊎ IsSeen seen j

module _ (graph : List (Vec ℕ)) where
  -- the followers that an index read
  pub read_at : (i : ℕ) (f : Vec ℕ) → f ≡ get_or graph i f → i < length graph → slice_get graph i ≡ Some f
  read_at i f is lt = slice_get-get_or graph i f lt ∙ ap Some (sym is)

  -- what follows a place is among its followers
  pub among : (i j : ℕ) (f : Vec ℕ) → slice_get graph i ≡ Some f → Follows graph i j → Contains f.items j
  among i j f at h =
      let e : Some h.followers ≡ Some f = sym h.listed ∙ at in
      let same : h.followers ≡ f = cc in
      subst (λ (v : Vec ℕ). Contains v.items j) same h.among

  pub all_within : (i n : ℕ) (f : Vec ℕ) → slice_get graph i ≡ Some f → IsWithin graph → n ≡ length graph → All (λ (j : ℕ). j < n) f.items
  all_within i n f at within same k d lt =
      let w = within i (get_or f.items k d) (record { followers = f; listed = at; among = Contains-get_or f.items k d lt }) in
      omega (arith, w)

  -- what can be reached is a place
  pub reached_within : IsWithin graph → {i j : ℕ} → LeadsOn graph i j → j < length graph
  reached_within within (one h) = within _ _ h
  reached_within within (more h c) = reached_within within c

  module _ (start : ℕ) where
    pub begun : (f : Vec ℕ) (seen new : List Bool) (pending later : List ℕ) → slice_get graph start ≡ Some f → length seen ≡ length graph → ((j : ℕ) → IsSeen seen j → ⊥) → pending ≡ [] → Sees f.items seen new pending later → IsSearch graph start new later
    begun f seen new pending later at long none empty s =
        let none' : (j : ℕ) → Contains pending j → ⊥ = λ j c. contains_none j (subst (λ l. Contains l j) empty c) in
        let follows : (j : ℕ) → Contains f.items j → LeadsOn graph start j = λ j c. one (record { followers = f; listed = at; among = c }) in
        record {
          long = s.long ∙ long;
          reached = λ j is. ⊎_elim (λ was. absurd (none j was)) (λ c. follows j c) (s.only j is);
          coming = λ j c. ⊎_elim (λ was. absurd (none' j was)) (λ c. follows j c) (s.few j c);
          first = λ j h. s.all j (among start j f at h);
          closed = λ i j is h. ⊎_elim (λ was. absurd (none i was)) (λ c. inl c) (s.laid i is);
        }

    pub gone_on : (p : ℕ) (f : Vec ℕ) (seen new : List Bool) (pending rest later : List ℕ) → IsSearch graph start seen pending → pending ≡ rest ++ p ∷ [] → slice_get graph p ≡ Some f → Sees f.items seen new rest later → IsSearch graph start new later
    gone_on p f seen new pending rest later i split at s =
        let was : (j : ℕ) → Contains (rest ++ p ∷ []) j → Contains pending j = λ j c. subst (λ l. Contains l j) (sym split) c in
        let there = i.coming p (was p (Contains-push rest p)) in
        let follows : (j : ℕ) → Contains f.items j → LeadsOn graph start j = λ j c. chain_then there (record { followers = f; listed = at; among = c }) in
        record {
          long = s.long ∙ i.long;
          reached = λ j is. ⊎_elim (λ before. i.reached j before) (λ c. follows j c) (s.only j is);
          coming = λ j c. ⊎_elim (λ before. i.coming j (was j (Contains-append_left rest (p ∷ []) j before))) (λ c. follows j c) (s.few j c);
          first = λ j h. s.kept j (i.first j h);
          closed = λ a b is h.
              ⊎_elim
              (λ before. ⊎_elim
              (λ c. ⊎_elim
              (λ earlier. inl (s.stays a earlier))
              (λ same. inr (s.all b (among a b f (ap (slice_get graph) (sym same) ∙ at) h)))
              (Contains-push_cases rest p a (subst (λ l. Contains l a) split c)))
              (λ is'. inr (s.kept b is'))
              (i.closed a b before h))
              (λ c. inl c)
              (s.laid a is);
        }

    pub popped_within : (p : ℕ) (seen : List Bool) (pending rest : List ℕ) → IsWithin graph → IsSearch graph start seen pending → pending ≡ rest ++ p ∷ [] → p < length graph
    popped_within p seen pending rest within i split =
        reached_within within (i.coming p (subst (λ l. Contains l p) (sym split) (Contains-push rest p)))

    pub all_reached : (seen : List Bool) (pending : List ℕ) → IsSearch graph start seen pending → pending ≡ [] → (j : ℕ) → LeadsOn graph start j → IsSeen seen j
    all_reached seen pending i empty j c = along c (λ k h. i.first k h)
      where
        along : {a b : ℕ} → Chain (Follows graph) a b → ((k : ℕ) → Follows graph a k → IsSeen seen k) → IsSeen seen b
        along (one h) first = first _ h
        along (more {x} {y} h c) first =
            along c (λ k g. ⊎_elim (λ c. absurd (contains_none y (subst (λ l. Contains l y) empty c))) (λ is. is) (i.closed y k (first y h) g))
