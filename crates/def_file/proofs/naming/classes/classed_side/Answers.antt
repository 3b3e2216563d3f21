use Rattle.std.proofs.Common.{◌≡◌, ◌∷◌, List, ℕ, [], length, sym, subst, rules, refl, arith}
use Rattle.eq_base.specs.Tree.{map_heads}
use Rattle.def_file.specs.Definitions.{classed}
use Rattle.def_file.proofs.Classes.{same_pattern}
use Rattle.def_file.proofs.naming.classes.classed_side.Goals as goal

no_classes : (cs : List (ℕ × ℕ)) → length cs ≡ 0 → cs ≡ []
no_classes [] e = refl
no_classes (c ∷ cs) e = absurd (omega (arith, e))

pub returns-then-is_empty : goal.returns-then-is_empty
returns-then-is_empty c =
    let none : length c.args.classes.now ≡ 0 = search rules in
    subst (λ cs. c.args.pattern ≡ map_heads (classed cs) c.args.pattern) (sym (no_classes c.args.classes.now none)) (same_pattern c.args.pattern)
