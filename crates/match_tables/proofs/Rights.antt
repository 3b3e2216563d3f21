-- From what rows hold to what a read answers.
use Rattle.std.proofs.Common.{◌≡◌, ℕ, List, [], Option, Some, None, slice_get, sym, subst, arith, inl, ⊎_elim}
use Rattle.std.proofs.lemmas.Bool.{cases_lt}
use Rattle.std.proofs.lemmas.Option.{slice_get_within}
use Rattle.eq_base.specs.Meeting.{in_class_of}
use Rattle.eq_base.specs.RuleList.{RuleList}
use Rattle.match_laws.specs.Demand.{left_sides_of}
use Rattle.eq_base.specs.declared.head.Head.{Head}
use Rattle.match_laws.specs.Items.{ItemSet, IsMet, IsRead, IsCompleted, IsFirstCompleted, IsDepth}
use Rattle.match_tables.specs.Steps.{IsMoved, LeadsTo}
use Rattle.match_tables.specs.Completing.{AreEnds, CompletesAt, IsCompletedBy, IsAnswered}
use Rattle.match_tables.specs.Rows.{MeetsNone, IsRight}
use Rattle.match_tables.specs.Answering.{StandsFor, ReadLeads}
use Rattle.match_tables.specs.declared.step.Step as steps
use Rattle.match_tables.specs.declared.step.Step.TheVariants.{Read}
use Rattle.match_tables.specs.declared.search.Move.{Move}
use Rattle.match_tables.specs.declared.completed.End.{End}
use Rattle.match_tables.proofs.Moved.{element-at}
use Rattle.match_tables.proofs.Firsts.{end-cell}

module _ (rules : RuleList) (sets : List ItemSet) (items : ItemSet) (head : Head) where
  -- ---- a read as a step

  moved-met : (e c : ℕ) → IsMoved rules items (Read head) e c → IsMet (in_class_of rules.classes) (left_sides_of rules) items head e c
  moved-met e c m = record { held = m.held; cell = m.cell; is_cell = m.is_cell; tested = m.moves.0; meets = m.moves.1 }

  met-moved : (e c : ℕ) → IsMet (in_class_of rules.classes) (left_sides_of rules) items head e c → IsMoved rules items (Read head) e c
  met-moved e c m = record { held = m.held; cell = m.cell; is_cell = m.is_cell; moves = (m.tested, m.meets) }

  pub leads-read : (next : ItemSet) → LeadsTo rules items (Read head) next → IsRead (in_class_of rules.classes) (left_sides_of rules) items head next
  leads-read next l = record {
    ordered = l.ordered;
    exactly = λ e c. (
      λ x. let f = (l.exactly e c).0 x in record { before = f.before; further = f.further; this = moved-met e f.before f.this; there = f.there },
      λ f. (l.exactly e c).1 (record { before = f.before; further = f.further; this = met-moved e f.before f.this; there = f.there }),
    );
  }

  completed-by : (e c : ℕ) → IsCompleted (in_class_of rules.classes) (left_sides_of rules) items head e c → IsCompletedBy rules items (Read head) e c
  completed-by e c x = (x.met.held.1, record { cell = x.met.cell; is_cell = x.met.is_cell; tested = x.met.tested; moves = (x.met.tested, x.met.meets); last = x.last })

  by-completed : (e c : ℕ) → IsCompletedBy rules items (Read head) e c → IsCompleted (in_class_of rules.classes) (left_sides_of rules) items head e c
  by-completed e c x = record {
    met = record { held = ((x.1.cell, x.1.is_cell), x.0); cell = x.1.cell; is_cell = x.1.is_cell; tested = x.1.tested; meets = x.1.moves.1 };
    last = x.1.last;
  }

  -- ---- what a right move answers

  pub right-leads : (to : Move) → IsRight rules sets items (Read head) to → ReadLeads rules sets items head to.next
  right-leads to r = record { set = r.set; stands = r.stands; read = leads-read r.set r.leads }

  pub right-none : (to : Move) → to.completed ≡ None → IsRight rules sets items (Read head) to → (e c : ℕ) → IsCompleted (in_class_of rules.classes) (left_sides_of rules) items head e c → ⊥
  right-none to is r e c x = (subst (IsAnswered rules items (Read head)) is r.completed) e c (completed-by e c x)

  pub right-some : (to : Move) (e height : ℕ) → to.completed ≡ Some e → IsRight rules sets items (Read head) to → ((c : ℕ) → CompletesAt rules (Read head) e c → IsDepth (left_sides_of rules) e c height) →
      IsFirstCompleted (in_class_of rules.classes) (left_sides_of rules) items head e height
  right-some to e height is r depth =
      let a = subst (IsAnswered rules items (Read head)) is r.completed in
      record {
        c = a.0.0;
        completed = by-completed e a.0.0 a.0.1;
        is_depth = depth a.0.0 a.0.1.1;
        first = λ k b less x. a.1 k b less (completed-by k b x);
      }

  -- ---- by the roots alone

  moved-root : MeetsNone rules items head → (e c : ℕ) → IsMoved rules items (Read head) e c → IsMoved rules [] (Read head) e c
  moved-root none e c m =
      ⊎_elim
      (λ more. absurd (none e c more (moved-met e c m)))
      (λ le. let z : c ≡ 0 = omega arith in record { held = (m.held.0, inl z); cell = m.cell; is_cell = m.is_cell; moves = m.moves })
      (cases_lt 0 c)

  root-moved : (e c : ℕ) → IsMoved rules [] (Read head) e c → IsMoved rules items (Read head) e c
  root-moved e c m = record { held = (m.held.0, ⊎_elim (λ z. inl z) (λ x. absurd (omega (arith, x.1))) m.held.1); cell = m.cell; is_cell = m.is_cell; moves = m.moves }

  pub root-leads : MeetsNone rules items head → (next : ItemSet) → LeadsTo rules [] (Read head) next → LeadsTo rules items (Read head) next
  root-leads none next l = record {
    ordered = l.ordered;
    exactly = λ e c. (
      λ x. let f = (l.exactly e c).0 x in record { before = f.before; further = f.further; this = root-moved e f.before f.this; there = f.there },
      λ f. (l.exactly e c).1 (record { before = f.before; further = f.further; this = moved-root none e f.before f.this; there = f.there }),
    );
  }

  by-root : MeetsNone rules items head → (e c : ℕ) → IsCompletedBy rules items (Read head) e c → IsCompletedBy rules [] (Read head) e c
  by-root none e c x =
      ⊎_elim
      (λ more. absurd (none e c more (by-completed e c x).met))
      (λ le. (inl (omega arith), x.1))
      (cases_lt 0 c)

  root-by : (e c : ℕ) → IsCompletedBy rules [] (Read head) e c → IsCompletedBy rules items (Read head) e c
  root-by e c x = (⊎_elim (λ z. inl z) (λ y. absurd (omega (arith, y.1))) x.0, x.1)

  root-answered : MeetsNone rules items head → (first : Option ℕ) → IsAnswered rules [] (Read head) first → IsAnswered rules items (Read head) first
  root-answered none None a = λ e c x. a e c (by-root none e c x)
  root-answered none (Some f) a = ((a.0.0, root-by f a.0.0 a.0.1), λ k c less x. a.1 k c less (by-root none k c x))

  -- where no item below the roots is met, a head leads where it leads from the roots alone
  pub root-right : MeetsNone rules items head → (to : Move) → IsRight rules sets [] (Read head) to → IsRight rules sets items (Read head) to
  root-right none to r = record { set = r.set; stands = r.stands; leads = root-leads none r.set r.leads; completed = root-answered none to.completed r.completed }

-- a symbol that stands at no root leads to the roots alone
pub nowhere-right : (rules : RuleList) (sets : List ItemSet) (head : Head) → StandsFor sets 0 [] → ((e : ℕ) → IsMet (in_class_of rules.classes) (left_sides_of rules) [] head e 0 → ⊥) → IsRight rules sets [] (Read head) (record { next = 0; completed = None })
nowhere-right rules sets head start none = record {
  set = [];
  stands = start;
  leads = record { ordered = tt; exactly = λ e c. (λ x. absurd (omega (arith, x.1)), λ f. absurd (nothing e f.before (moved-met rules sets [] head e f.before f.this))) };
  completed = λ e c x. nothing e c ((by-completed rules sets [] head e c x).met);
}
  where
    nothing : (e c : ℕ) → IsMet (in_class_of rules.classes) (left_sides_of rules) [] head e c → ⊥
    nothing e c m = ⊎_elim (λ z. none e (subst (IsMet (in_class_of rules.classes) (left_sides_of rules) [] head e) z m)) (λ x. omega (arith, x.1)) m.held.1

-- the depth of a completed cell is that of the last tested one
pub depth-at : (rules : RuleList) (ends : List End) → AreEnds rules ends → (by : steps.Step) (e c height : ℕ) → ((end : End) → slice_get ends e ≡ Some end → height ≡ end.height) → CompletesAt rules by e c → IsDepth (left_sides_of rules) e c height
depth-at rules ends are by e c height is x =
    let below = slice_get_within (left_sides_of rules) e x.is_cell.left x.is_cell.listed in
    let end = element-at ends e (omega (arith, below, are.lengths)) in
    let at = are.each e end.0 end.1 in
    subst (λ n. IsDepth (left_sides_of rules) e c n) (sym (is end.0 end.1)) (subst (λ n. IsDepth (left_sides_of rules) e n end.0.height) (sym (end-cell rules by e c end.0 at x)) at.depth)
