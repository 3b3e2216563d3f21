-- What is read stays as it was while a table grows.
use Rattle.std.proofs.Common.{◌≡◌, ℕ, suc, ◌<◌, List, [], ◌∷◌, map, length, refl, sym, ◌∙◌, ap, arith, length-append}
use Rattle.std.proofs.lemmas.List.{get_or_append_left}
use Rattle.std.specs.Prelude.{All, slice_index_or}
use Rattle.eq_base.specs.Tree.{Tree, Forest, node, empty, grow, map_all_heads, AllHeadsIn}
use Rattle.eq_base.specs.Pattern.{PatternCell, fixed, variable, restricted}
use Rattle.eq_base.specs.Rewriting.{pattern}
use Rattle.eq_base.specs.RuleList.{RuleList}
use Rattle.eq_base.specs.Rules.{right_side}
use Rattle.eq_base.specs.Mapping.{map_cell, map_right}
use Rattle.eq_base.specs.ReadHead.{atom, text}
use Rattle.eq_base.specs.declared.head.Head.{Head}
use Rattle.eq_base.specs.declared.head.Head.TheVariants.{Symbol, Numeral, Atom, Text}
use Rattle.eq_base.specs.declared.rules.Right.{Right}
use Rattle.eq_base.specs.declared.rules.Right.TheVariants as rights
use Rattle.eq_base.specs.declared.rules.Equation.{Equation}
use Rattle.symbol_table.specs.Table.{Table, IsFront, Keeps}
use Rattle.symbol_table.specs.Reading.{read_head, read, read_pattern, read_rule, read_classes, read_system, IsLiveHead, IsLiveTerm, IsLiveCell, IsLivePattern, IsLiveRight, IsLiveEquation, AreLiveEquations, AreLiveClasses, AreLive}
use Rattle.symbol_table.proofs.Keeping.{declared_as}

front_there : (old new : List (List ℕ)) (n : ℕ) → IsFront old new → n < length old → slice_index_or new n [] ≡ slice_index_or old n []
front_there old new n front lt = ap (λ xs. slice_index_or xs n []) front.1 ∙ get_or_append_left old front.0 [] n lt

front_long : (old new : List (List ℕ)) (n : ℕ) → IsFront old new → n < length old → n < length new
front_long old new n front lt = rw front.1 (omega (arith, lt, length-append old front.0))

module _ (old new : Table) (k : Keeps old new) where
  pub head_kept : (h : Head) → IsLiveHead old h → read_head new h ≡ read_head old h
  head_kept (Symbol s) live = refl
  head_kept (Numeral i) live = refl
  head_kept (Atom a) live = ap atom (front_there old.atoms new.atoms a k.atoms live)
  head_kept (Text t) live = ap text (front_there old.texts new.texts t k.texts live)

  pub live_kept : (h : Head) → IsLiveHead old h → IsLiveHead new h
  live_kept (Symbol s) live = (live.0, live.1, declared_as old new (sym k.declared) (sym k.included) live.0 s live.1 live.2)
  live_kept (Numeral i) live = tt
  live_kept (Atom a) live = front_long old.atoms new.atoms a k.atoms live
  live_kept (Text t) live = front_long old.texts new.texts t k.texts live

  mutual
    pub term_kept : (t : Tree Head) → IsLiveTerm old t → read new t ≡ read old t
    term_kept (node h ts) live = rw (head_kept h live.0, terms_kept ts live.1) refl

    terms_kept : (ts : Forest Head) → AllHeadsIn (IsLiveHead old) ts → map_all_heads (read_head new) ts ≡ map_all_heads (read_head old) ts
    terms_kept empty live = refl
    terms_kept (grow t ts) live = rw (term_kept t live.0, terms_kept ts live.1) refl

  mutual
    pub live_term_kept : (t : Tree Head) → IsLiveTerm old t → IsLiveTerm new t
    live_term_kept (node h ts) live = (live_kept h live.0, live_terms_kept ts live.1)

    live_terms_kept : (ts : Forest Head) → AllHeadsIn (IsLiveHead old) ts → AllHeadsIn (IsLiveHead new) ts
    live_terms_kept empty live = tt
    live_terms_kept (grow t ts) live = (live_term_kept t live.0, live_terms_kept ts live.1)

  pub cell_kept : (c : PatternCell Head) → IsLiveCell old c → map_cell (read_head new) c ≡ map_cell (read_head old) c
  cell_kept (fixed h) live = ap fixed (head_kept h live)
  cell_kept (variable x) live = refl
  cell_kept (restricted x class) live = refl

  pub live_cell_kept : (c : PatternCell Head) → IsLiveCell old c → IsLiveCell new c
  live_cell_kept (fixed h) live = live_kept h live
  live_cell_kept (variable x) live = tt
  live_cell_kept (restricted x class) live = tt

  mutual
    pub pattern_kept : (p : Tree (PatternCell Head)) → IsLivePattern old p → read_pattern new p ≡ read_pattern old p
    pattern_kept (node c ps) live = rw (cell_kept c live.0, patterns_kept ps live.1) refl

    patterns_kept : (ps : Forest (PatternCell Head)) → AllHeadsIn (IsLiveCell old) ps → map_all_heads (map_cell (read_head new)) ps ≡ map_all_heads (map_cell (read_head old)) ps
    patterns_kept empty live = refl
    patterns_kept (grow p ps) live = rw (pattern_kept p live.0, patterns_kept ps live.1) refl

  mutual
    pub live_pattern_kept : (p : Tree (PatternCell Head)) → IsLivePattern old p → IsLivePattern new p
    live_pattern_kept (node c ps) live = (live_cell_kept c live.0, live_patterns_kept ps live.1)

    live_patterns_kept : (ps : Forest (PatternCell Head)) → AllHeadsIn (IsLiveCell old) ps → AllHeadsIn (IsLiveCell new) ps
    live_patterns_kept empty live = tt
    live_patterns_kept (grow p ps) live = (live_pattern_kept p live.0, live_patterns_kept ps live.1)

  right_kept : (right : Right) → IsLiveRight old right → map_right (read_head new) (right_side right) ≡ map_right (read_head old) (right_side right)
  right_kept (rights.Tree p) live = ap pattern (pattern_kept p live)
  right_kept (rights.Schema op) live = refl

  live_right_kept : (right : Right) → IsLiveRight old right → IsLiveRight new right
  live_right_kept (rights.Tree p) live = live_pattern_kept p live
  live_right_kept (rights.Schema op) live = tt

  pub rule_kept : (e : Equation) → IsLiveEquation old e → read_rule new e ≡ read_rule old e
  rule_kept e live = rw (pattern_kept e.left live.left, right_kept e.right live.right) refl

  pub equations_kept : (es : List Equation) → AreLiveEquations old es → AreLiveEquations new es
  equations_kept es live = λ n d lt. let l = live n d lt in record { left = live_pattern_kept _ l.left; right = live_right_kept _ l.right }

  rules_kept : (es : List Equation) → AreLiveEquations old es → map (read_rule new) es ≡ map (read_rule old) es
  rules_kept [] live = refl
  rules_kept (e ∷ es) live = rw (rule_kept e (live 0 e (omega arith)), rules_kept es (λ n d lt. live (suc n) d (omega arith))) refl

  members_kept : (heads : List Head) → All (IsLiveHead old) heads → map (read_head new) heads ≡ map (read_head old) heads
  members_kept [] live = refl
  members_kept (h ∷ heads) live = rw (head_kept h (live 0 h (omega arith)), members_kept heads (λ n d lt. live (suc n) d (omega arith))) refl

  pub classes_kept : (classes : List (List Head)) → AreLiveClasses old classes → read_classes new classes ≡ read_classes old classes
  classes_kept [] live = refl
  classes_kept (heads ∷ classes) live = rw (members_kept heads (live 0 heads (omega arith)), classes_kept classes (λ n d lt. live (suc n) d (omega arith))) refl

  pub live_classes_kept : (classes : List (List Head)) → AreLiveClasses old classes → AreLiveClasses new classes
  live_classes_kept classes live = λ n d lt k h there. live_kept _ (live n d lt k h there)

  pub live_rules_kept : (rules : RuleList) → AreLive old rules → AreLive new rules
  live_rules_kept rules live = record { classes = live_classes_kept rules.classes live.classes; equations = equations_kept rules.equations live.equations }

  pub system_kept : (rules : RuleList) → AreLive old rules → read_system new rules ≡ read_system old rules
  system_kept rules live = rw (rules_kept rules.equations live.equations, classes_kept rules.classes live.classes) refl
