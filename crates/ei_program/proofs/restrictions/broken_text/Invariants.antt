use Rattle.std.proofs.Common.{◌≡◌, ◌++◌, take, string_bytes}
use Rattle.std.specs.Prelude.{flat_map}
use Rattle.eq_base.specs.Rules.{rule_of}
use Rattle.ei_program.specs.Restrictions.{origin_of, break_line}
use Rattle.ei_program.proofs.restrictions.broken_text.Given as goal

abbrev pub invariant-loop-i : goal.invariant-loop-i
invariant-loop-i l = string_bytes l.text ≡ string_bytes l.initial.text ++ flat_map (break_line rule_of origin_of l.rules.equations) (take l.i l.breaks)
