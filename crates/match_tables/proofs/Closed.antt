-- The item sets of tables are all that are reachable.
use Rattle.std.proofs.Common.{◌≡◌, ◌⊎◌, ℕ, Bool, true, false, inl, inr, List, [], length, None, refl, arith, ⊎_elim}
use Rattle.std.specs.Prelude.{Contains}
use Rattle.std.proofs.lemmas.Bool.{cases_lt}
use Rattle.std.proofs.lemmas.Option.{slice_get_within}
use Rattle.std.specs.Bool.{Decides}
use Rattle.std.proofs.lemmas.Map.Made.{is_member-Decides}
use Rattle.std.specs.Set.{is_member}
use Rattle.eq_base.specs.Meeting.{in_class_of, same_head}
use Rattle.eq_base.proofs.ClassMembers.{same_head_decides}
use Rattle.regularity.specs.WellFormed.{AreWellFormed}
use Rattle.eq_base.specs.RuleList.{RuleList}
use Rattle.eq_base.specs.declared.head.Head.{Head}
use Rattle.eq_base.specs.declared.head.Head.TheVariants.{Symbol, Numeral, Atom, Text}
use Rattle.match_laws.specs.Items.{ItemSet}
use Rattle.match_laws.specs.Reachable.{ArePast}
use Rattle.match_laws.specs.Demand.{left_sides_of}
use Rattle.match_tables.specs.Answering.{StandsFor}
use Rattle.match_tables.specs.Rows.{MeetsNone, IsRight, IsRow}
use Rattle.match_tables.specs.Tabled.{AreRows, AreRoots, AreTablesOf}
use Rattle.match_tables.specs.declared.step.Step.TheVariants.{Read}
use Rattle.match_tables.specs.declared.search.Move.{Move}
use Rattle.match_tables.specs.declared.row.State.{State}
use Rattle.match_tables.specs.declared.tables.Tables.{Tables}
use Rattle.match_tables.proofs.Places.{contains_from_place, place_from_contains}
use Rattle.match_tables.proofs.Moved.{element-at}
use Rattle.match_tables.proofs.Rights.{right-leads, root-right, nowhere-right}
use Rattle.match_tables.proofs.Named.{by-class, by-symbol}
use Rattle.match_tables.proofs.Closing.{IsClosed, not-past}

module _ (rules : RuleList) (sets : List ItemSet) where
  -- where a head leads, if it is a symbol that no item below the roots meets
  pub record RootMove (items : ItemSet) (head : Head) : Type 0 where
    pub to : Move
    pub right : MeetsNone rules items head → (symbol : ℕ) → head ≡ Symbol symbol → IsRight rules sets items (Read head) to

  -- a right move
  pub record RightMove (items : ItemSet) (head : Head) : Type 0 where
    pub to : Move
    pub right : IsRight rules sets items (Read head) to

  module _ (roots : List Move) (are : AreRoots rules sets roots) (first : StandsFor sets 0 []) (items : ItemSet) where
    root-symbol : (symbol : ℕ) → RootMove items (Symbol symbol)
    root-symbol symbol =
        ⊎_elim
        (λ less.
        let x = element-at roots symbol less in
        record { to = x.0; right = λ none s e. root-right rules sets items (Symbol symbol) none x.0 (are.each symbol x.0 x.1) })
        (λ past. record {
          to = record { next = 0; completed = None };
          right = λ none s e. root-right rules sets items (Symbol symbol) none (record { next = 0; completed = None }) (nowhere-right rules sets (Symbol symbol) first (are.past symbol past));
        })
        (cases_lt symbol (length roots))

    -- no other head is a symbol
    pub root-move : (head : Head) → RootMove items head
    root-move (Symbol symbol) = root-symbol symbol
    root-move (Numeral n) = record { to = record { next = 0; completed = None }; right = λ none s e. cc }
    root-move (Atom n) = record { to = record { next = 0; completed = None }; right = λ none s e. cc }
    root-move (Text n) = record { to = record { next = 0; completed = None }; right = λ none s e. cc }

  -- the row of an item set
  record RowOf (states : List State) (items : ItemSet) : Type 0 where
    pub row : State
    pub is : IsRow rules sets items row

  row-of : (states : List State) → length states ≡ length sets → AreRows rules sets states → (items : ItemSet) → Contains sets items → RowOf states items
  row-of states as_many rows items c =
      let at = place_from_contains sets items c in
      let below = slice_get_within sets at.0 items at.1 in
      let x = element-at states at.0 (omega (arith, as_many, below)) in
      record { row = x.0; is = rows.each at.0 x.0 items x.1 at.1 }

-- ---- where each head leads

either-way : (P : Type 0) (holds : Bool) → Decides holds P → P ⊎ (¬ P)
either-way P true d = inl (d.0 refl)
either-way P false d = inr (λ p. let x = d.1 p in absurd (cc))

has-or-not : (heads : List Head) (head : Head) → Contains heads head ⊎ (¬ Contains heads head)
has-or-not heads head = either-way (Contains heads head) (is_member same_head heads head) (is_member-Decides same_head_decides heads head)

module _ (rules : RuleList) (w : AreWellFormed rules) (sets : List ItemSet) (items : ItemSet) (row : State) (is : IsRow rules sets items row) where
  named-move : (head : Head) → Contains row.heads.keys head → RightMove rules sets items head
  named-move head c =
      let at = place_from_contains row.heads.keys head c in
      let x = element-at row.moves.items at.0 (let lt = slice_get_within row.heads.keys at.0 head at.1 in omega (arith, lt, is.moves.as_many)) in
      record { to = x.0; right = is.moves.each at.0 head x.0 at.1 x.1 }

  other-move : (head : Head) → RootMove rules sets items head → ¬ Contains row.heads.keys head → RightMove rules sets items head
  other-move (Symbol s) root none = record { to = root.to; right = by-symbol rules sets items row is (Symbol s) root.to w none s refl root.right }
  other-move (Numeral n) root none = record { to = row.numerals; right = by-class rules sets items row is (Numeral n) root.to w none 0 row.numerals refl is.numerals root.right }
  other-move (Atom n) root none = record { to = row.atoms; right = by-class rules sets items row is (Atom n) root.to w none 1 row.atoms refl is.atoms root.right }
  other-move (Text n) root none = record { to = row.strings; right = by-class rules sets items row is (Text n) root.to w none 3 row.strings refl is.strings root.right }

  head-move : (head : Head) → RootMove rules sets items head → RightMove rules sets items head
  head-move head root = ⊎_elim (λ c. named-move head c) (λ none. other-move head root none) (has-or-not row.heads.keys head)

-- reads and skips do not lead out of the item sets of tables
pub tables-closed : (rules : RuleList) (tables : Tables) → AreTablesOf rules tables → IsClosed (in_class_of rules.classes) (left_sides_of rules) tables.sets
tables-closed rules tables t = record {
  roots = contains_from_place tables.sets 0 [] t.start;
  reads = λ items head c.
      let r = row-of rules tables.sets tables.states.items t.as_many t.rows items c in
      let to = head-move rules t.well_formed tables.sets items r.row r.is head (root-move rules tables.sets tables.roots.items t.roots t.start items head) in
      let leads = right-leads rules tables.sets items head to.to to.right in
      record { set = leads.set; inside = contains_from_place tables.sets to.to.next leads.set leads.stands; read = leads.read };
  skips = λ items c.
      let r = row-of rules tables.sets tables.states.items t.as_many t.rows items c in
      let leads = r.is.skip in
      record { set = leads.set; inside = contains_from_place tables.sets r.row.skip leads.set leads.stands; skip = leads.skip };
}

-- where there are tables, the reachable item sets hold few enough items together
pub tables-not-past : (rules : RuleList) (tables : Tables) → AreTablesOf rules tables → ArePast (in_class_of rules.classes) (left_sides_of rules) 4194304 → ⊥
tables-not-past rules tables t = not-past (in_class_of rules.classes) (left_sides_of rules) 4194304 tables.sets (tables-closed rules tables t) t.found.few
