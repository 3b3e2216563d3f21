-- What stays right while more item sets are found.
use Rattle.std.proofs.Common.{length-append, ◌≡◌, ℕ, ◌+◌, ◌<◌, ◌≤◌, List, [], ◌∷◌, ◌++◌, take, length, get_or, slice_get, Some, refl, sym, subst, arith, ⊎_elim}
use Rattle.std.proofs.lemmas.Option.{slice_get_within}
use Rattle.std.proofs.lemmas.List.{take_more, take_all}
use Rattle.eq_base.specs.RuleList.{RuleList}
use Rattle.eq_base.specs.declared.head.Head.{Head}
use Rattle.eq_base.specs.Pattern.{variable}
use Rattle.match_laws.specs.Items.{ItemSet, IsCell, IsPlain, IsSkip}
use Rattle.match_laws.specs.Demand.{left_sides_of}
use Rattle.match_tables.specs.Steps.{IsMoved, LeadsTo}
use Rattle.match_tables.specs.Searching.{Extends}
use Rattle.match_tables.specs.Answering.{SkipLeads}
use Rattle.match_tables.specs.Rows.{IsRight, AreRight, IsRow}
use Rattle.match_tables.specs.Tabled.{AreRoots}
use Rattle.match_tables.specs.declared.step.Step.{Step}
use Rattle.match_tables.specs.declared.step.Step.TheVariants.{Read, Skip}
use Rattle.match_tables.specs.declared.search.Move.{Move}
use Rattle.match_tables.specs.declared.row.State.{State}
use Rattle.match_tables.proofs.Places.{old_or_last}

pub extends-same : (sets : List ItemSet) → Extends sets sets
extends-same sets n items at = at

pub extends-both : (old between new : List ItemSet) → Extends old between → Extends between new → Extends old new
extends-both old between new e f n items at = f n items (e n items at)

pub still-below : (old new : List ItemSet) (state : ℕ) (items : ItemSet) → Extends old new → slice_get old state ≡ Some items → state < length new
still-below old new state items e at = slice_get_within new state items (e state items at)

module _ (rules : RuleList) (old new : List ItemSet) (e : Extends old new) where
  pub extends-right : (items : ItemSet) (step : Step) (to : Move) → IsRight rules old items step to → IsRight rules new items step to
  extends-right items step to r = record { set = r.set; stands = e to.next r.set r.stands; leads = r.leads; completed = r.completed }

  pub extends-moves : (items : ItemSet) (heads : List Head) (moves : List Move) → AreRight rules old items heads moves → AreRight rules new items heads moves
  extends-moves items heads moves a = record { as_many = a.as_many; each = λ i head to at move. extends-right items (Read head) to (a.each i head to at move) }

  pub extends-skip : (items : ItemSet) (next : ℕ) → SkipLeads rules old items next → SkipLeads rules new items next
  extends-skip items next s = record { set = s.set; stands = e next s.set s.stands; skip = s.skip }

  pub extends-row : (items : ItemSet) (row : State) → IsRow rules old items row → IsRow rules new items row
  extends-row items row r = record {
    want = r.want;
    skip = extends-skip items row.skip r.skip;
    named = r.named;
    moves = extends-moves items row.heads.keys row.moves.items r.moves;
    numerals = extends-right items _ row.numerals r.numerals;
    atoms = extends-right items _ row.atoms r.atoms;
    strings = extends-right items _ row.strings r.strings;
  }

  pub extends-roots : (roots : List Move) → AreRoots rules old roots → AreRoots rules new roots
  extends-roots roots r = record { each = λ symbol to at. extends-right [] _ to (r.each symbol to at); past = r.past }

-- ---- a skip

module _ (rules : RuleList) (items : ItemSet) where
  pub leads-skip : (next : ItemSet) → LeadsTo rules items Skip next → IsSkip (left_sides_of rules) items next
  leads-skip next l = record {
    ordered = l.ordered;
    exactly = λ e c. (
      λ x. let f = (l.exactly e c).0 x in record { before = f.before; further = f.further; this = plain e f.before f.this; there = f.there },
      λ f. (l.exactly e c).1 (record { before = f.before; further = f.further; this = moved e f.before f.this; there = f.there }),
    );
  }
    where
      plain : (e c : ℕ) → IsMoved rules items Skip e c → IsPlain (left_sides_of rules) items e c
      plain e c m = record { held = m.held; x = m.moves.0; is_cell = subst (IsCell (left_sides_of rules) e c) m.moves.1 m.is_cell }

      moved : (e c : ℕ) → IsPlain (left_sides_of rules) items e c → IsMoved rules items Skip e c
      moved e c p = record { held = p.held; cell = variable p.x; is_cell = p.is_cell; moves = (p.x, refl) }

  pub right-skip : (sets : List ItemSet) (to : Move) → IsRight rules sets items Skip to → SkipLeads rules sets items to.next
  right-skip sets to r = record { set = r.set; stands = r.stands; skip = leads-skip r.set r.leads }

-- ---- one more move

module _ (rules : RuleList) (old new : List ItemSet) (items : ItemSet) (heads : List Head) (k : ℕ) (d : Head) (moves : List Move) (to : Move) where
  pub moves-push : k < length heads → Extends old new → AreRight rules old items (take k heads) moves → IsRight rules new items (Read (get_or heads k d)) to → AreRight rules new items (take (k + 1) heads) (moves ++ to ∷ [])
  moves-push lt e a r =
      subst (λ hs. AreRight rules new items hs (moves ++ to ∷ [])) (sym (take_more heads k d lt)) (record {
        as_many = let p = length-append moves (to ∷ []) in let q = length-append (take k heads) (get_or heads k d ∷ []) in omega (arith, p, q, a.as_many);
        each = λ i head move at here. ⊎_elim
            (λ before. ⊎_elim
            (λ m. extends-right rules old new e items (Read head) move (a.each i head move before m))
            (λ last. absurd (let lt = slice_get_within (take k heads) i head before in omega (arith, lt, last.0, a.as_many)))
            (old_or_last moves to i move here))
            (λ last. ⊎_elim
            (λ m. absurd (let lt = slice_get_within moves i move m in omega (arith, lt, last.0, a.as_many)))
            (λ same. subst (λ h. IsRight rules new items (Read h) move) last.1 (subst (λ m. IsRight rules new items (Read (get_or heads k d)) m) same.1 r))
            (old_or_last moves to i move here))
            (old_or_last (take k heads) (get_or heads k d) i head at);
      })

pub no-moves : (rules : RuleList) (sets : List ItemSet) (items : ItemSet) (heads : List Head) → AreRight rules sets items (take 0 heads) []
no-moves rules sets items heads = record { as_many = refl; each = λ i head to at move. absurd (let lt = slice_get_within [] i to move in omega (arith, lt)) }

pub all-moves : (rules : RuleList) (sets : List ItemSet) (items : ItemSet) (heads : List Head) (moves : List Move) (k : ℕ) → length heads ≤ k → AreRight rules sets items (take k heads) moves → AreRight rules sets items heads moves
all-moves rules sets items heads moves k past a = subst (λ hs. AreRight rules sets items hs moves) (take_all k heads past) a
