use Rattle.term_lex.specs.declared.syntax.Syntax.TheVariants.{Standmath}
use Rattle.def_file.specs.AsRead.{definitions_read}
use Rattle.def_file.proofs.Lawful.{lawful_of}
use Rattle.qualifiers.proofs.SaysProper.{says_proper}
use Rattle.crate_tests.proofs.expansions.expansion.Goals as goal

pub expand-requires-clause-proper : goal.expand-requires-clause-proper
expand-requires-clause-proper c = says_proper (lawful_of Standmath) c.args.text.now (definitions_read c.in_ok-definitions.definitions) c.in_ok-definitions.ensures.answer
