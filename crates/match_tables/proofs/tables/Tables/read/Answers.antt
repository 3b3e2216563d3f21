use Rattle.std.proofs.Common.{Some, sym, ap, ◌∙◌}
use Rattle.std.proofs.lemmas.Option.{slice_get-get_or}
use Rattle.match_tables.specs.declared.step.Step.TheVariants.{Read}
use Rattle.match_tables.proofs.Rights.{right-leads, right-none, right-some, depth-at}
use Rattle.match_tables.proofs.tables.Tables.read.Goals as goal

pub returns-in-None : goal.returns-in-None
returns-in-None c = λ rules t items s.
    let row = t.rows.each c.args.state c.index.result.now items (slice_get-get_or c.args.self.now.states.items c.args.state c.index.result.now c.requires ∙ ap Some (sym c.index.ensures)) s in
    let right = c.on_head-to.ensures rules t.well_formed c.args.self.now.sets items row (λ none symbol e. c.on_root.ensures rules t items none symbol e) in
    (right-leads rules c.args.self.now.sets items c.args.head c.on_head-to.result right, right-none rules c.args.self.now.sets items c.args.head c.on_head-to.result c.in-None.is right)

pub returns-in-Some : goal.returns-in-Some
returns-in-Some c = λ rules t items s.
    let row = t.rows.each c.args.state c.index.result.now items (slice_get-get_or c.args.self.now.states.items c.args.state c.index.result.now c.requires ∙ ap Some (sym c.index.ensures)) s in
    let right = c.on_head-to.ensures rules t.well_formed c.args.self.now.sets items row (λ none symbol e. c.on_root.ensures rules t items none symbol e) in (
      right-leads rules c.args.self.now.sets items c.args.head c.on_head-to.result right,
      right-some rules c.args.self.now.sets items c.args.head c.on_head-to.result c.in-Some.equation c.height.result c.in-Some.is right
          (λ b x. depth-at rules c.args.self.now.ends.items t.ends (Read c.args.head) c.in-Some.equation b c.height.result c.height.ensures x),
    )
