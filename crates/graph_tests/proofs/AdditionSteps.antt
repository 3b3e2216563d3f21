-- The steps of the example: each can be made, and leads to these trees.
use Rattle.std.proofs.Common.{◌≡◌, ℕ, zero, suc, ◌≤◌, ◌++◌, List, [], ◌∷◌, length, map, Some, refl, sym, ◌∙◌, ap, subst, arith}
use Rattle.std.specs.Prelude.{slice_get}
use Rattle.eq_base.specs.Tree.{Tree, node, empty, grow, cells}
use Rattle.eq_base.specs.Cells.{tree_cell}
use Rattle.eq_base.specs.declared.head.Cell.{Cell}
use Rattle.eq_base.proofs.Trees.{cells-injective}
use Rattle.eq_base.specs.RuleList.{RuleList}
use Rattle.eq_base.specs.declared.head.Head.{Head}
use Rattle.graph_laws.specs.Numbered.{Numbered, plain}
use Rattle.graph_laws.specs.Replacing.{MeetsWith, replace_in_all, IsReplacement}
use Rattle.term_graph.specs.Graph.{Graph}
use Rattle.term_graph.specs.Sides.{HasSides, CanReplace}
use Rattle.graph_tests.specs.AdditionStores.{Pattern, equation_of, zero_left, successor_left, successor_right, first_variable, zero_equation, successor_equation, addition_rules, zero_head, numbered_successor, numbered_plus, second, third, fourth, start_trees, one_step, two_steps, three_steps, plus_head}

pub zero_sides : HasSides addition_rules 0 zero_left first_variable
zero_sides = record { equation = zero_equation; listed = refl; left_is = refl; right_is = refl }

pub successor_sides : HasSides addition_rules 1 successor_left successor_right
successor_sides = record { equation = successor_equation; listed = refl; left_is = refl; right_is = refl }

some_same : {A : Type 0} (a b : A) → Some a ≡ Some b → a ≡ b
some_same a b e = cc

-- what the variables meet
abbrev met : Tree Head → Tree Head → ℕ → Tree Head
met a b zero = a
met a b (suc n) = b

module _ (ts after : List (Numbered Head)) (n : ℕ) where
  -- what comes after a replacement by the second equation
  abbrev moved : Numbered Head → Numbered Head → List (Numbered Head)
  moved a b = replace_in_all n (numbered_successor n (numbered_plus (length ts) a b)) ts ++ numbered_plus (length ts) a b ∷ []

  after_successor : (k m : ℕ) (a b : Numbered Head) → slice_get ts n ≡ Some (numbered_plus k (numbered_successor m a) b) → IsReplacement successor_left successor_right n ts after → after ≡ moved a b
  after_successor k m a b e x =
      let here = some_same x.tree (numbered_plus k (numbered_successor m a) b) (sym x.stands ∙ e) in
      let meets = subst (MeetsWith x.substitution successor_left) here x.meets in
      x.result ∙ ap (λ u. moved u (x.substitution 1)) meets.1.0.1.0 ∙ ap (λ u. moved a u) meets.1.1.0

  -- what comes after a replacement by the first equation
  after_zero : (k m : ℕ) (b : Numbered Head) → slice_get ts n ≡ Some (node (plus_head, k) (grow (node (zero_head, m) empty) (grow b empty))) → IsReplacement zero_left first_variable n ts after → after ≡ replace_in_all n b ts ++ []
  after_zero k m b e x =
      let here = some_same x.tree (node (plus_head, k) (grow (node (zero_head, m) empty) (grow b empty))) (sym x.stands ∙ e) in
      let meets = subst (MeetsWith x.substitution zero_left) here x.meets in
      x.result ∙ ap (λ u. replace_in_all n u ts ++ []) meets.1.1.0

module _ (g : Graph) (rules : RuleList) (same : rules ≡ addition_rules) where
  abbrev with_trees : List (Numbered Head) → Graph
  with_trees ts = record { trees = ts; marks = g.marks; spare = g.spare }

  pub can_first : g.trees ≡ start_trees → 4 ≤ g.spare → CanReplace g rules 0 1
  can_first e room =
      let can : CanReplace (with_trees start_trees) addition_rules 0 1 = record {
        left = successor_left;
        right = successor_right;
        sides = successor_sides;
        followed = record { there = omega arith; own = refl };
        fits = record { substitution = met (plain second) (plain fourth); applied = refl; respects = tt };
        room = room;
      } in
      subst (λ rs. CanReplace g rs 0 1) (sym same) (subst (λ ts. CanReplace (with_trees ts) addition_rules 0 1) (sym e) can)

  pub can_second : g.trees ≡ one_step → 4 ≤ g.spare → CanReplace g rules 6 1
  can_second e room =
      let can : CanReplace (with_trees one_step) addition_rules 6 1 = record {
        left = successor_left;
        right = successor_right;
        sides = successor_sides;
        followed = record { there = omega arith; own = refl };
        fits = record { substitution = met (plain third) (plain fourth); applied = refl; respects = tt };
        room = room;
      } in
      subst (λ rs. CanReplace g rs 6 1) (sym same) (subst (λ ts. CanReplace (with_trees ts) addition_rules 6 1) (sym e) can)

  pub can_third : g.trees ≡ two_steps → 1 ≤ g.spare → CanReplace g rules 7 0
  can_third e room =
      let can : CanReplace (with_trees two_steps) addition_rules 7 0 = record {
        left = zero_left;
        right = first_variable;
        sides = zero_sides;
        followed = record { there = omega arith; own = refl };
        fits = record { substitution = met (plain fourth) (plain fourth); applied = refl; respects = tt };
        room = room;
      } in
      subst (λ rs. CanReplace g rs 7 0) (sym same) (subst (λ ts. CanReplace (with_trees ts) addition_rules 7 0) (sym e) can)

pub first_leads : (ts after : List (Numbered Head)) → ts ≡ start_trees → IsReplacement successor_left successor_right 0 ts after → after ≡ one_step
first_leads ts after e x = after_successor start_trees after 0 0 1 second fourth refl (subst (λ l. IsReplacement successor_left successor_right 0 l after) e x)

pub second_leads : (ts after : List (Numbered Head)) → ts ≡ one_step → IsReplacement successor_left successor_right 6 ts after → after ≡ two_steps
second_leads ts after e x = after_successor one_step after 6 6 2 third fourth refl (subst (λ l. IsReplacement successor_left successor_right 6 l after) e x)

pub third_leads : (ts after : List (Numbered Head)) → ts ≡ two_steps → IsReplacement zero_left first_variable 7 ts after → after ≡ three_steps
third_leads ts after e x = after_zero two_steps after 7 7 3 fourth refl (subst (λ l. IsReplacement zero_left first_variable 7 l after) e x)

-- ---- sides from their cells

pub one_pushed : {A : Type 0} (start one : List A) (a : A) → start ≡ [] → one ≡ start ++ a ∷ [] → one ≡ a ∷ []
one_pushed start one a e e' = e' ∙ ap (λ l. l ++ a ∷ []) e

pub three_pushed : {A : Type 0} (start one two three : List A) (a b c : A) → start ≡ [] → one ≡ start ++ a ∷ [] → two ≡ one ++ b ∷ [] → three ≡ two ++ c ∷ [] → three ≡ a ∷ b ∷ c ∷ []
three_pushed start one two three a b c e x y z = z ∙ ap (λ l. l ++ c ∷ []) (y ∙ ap (λ l. l ++ b ∷ []) (one_pushed start one a e x))

pub four_pushed : {A : Type 0} (start one two three four : List A) (a b c d : A) → start ≡ [] → one ≡ start ++ a ∷ [] → two ≡ one ++ b ∷ [] → three ≡ two ++ c ∷ [] → four ≡ three ++ d ∷ [] → four ≡ a ∷ b ∷ c ∷ d ∷ []
four_pushed start one two three four a b c d e w x y z = z ∙ ap (λ l. l ++ d ∷ []) (three_pushed start one two three a b c e w x y)

pub finished : (p q : Pattern) (cs ds : List Cell) → cells p ≡ map tree_cell cs → cs ≡ ds → map tree_cell ds ≡ cells q → p ≡ q
finished p q cs ds e same e' = cells-injective p q (e ∙ ap (map tree_cell) same ∙ e')

pub equation_same : (left left' right right' : Pattern) (item : ℕ) → left ≡ left' → right ≡ right' → equation_of left right item ≡ equation_of left' right' item
equation_same left left' right right' item e e' = ap (λ p. equation_of p right item) e ∙ ap (λ p. equation_of left' p item) e'
