use Rattle.std.proofs.Common.{◌<◌, arith, sym, subst}
use Rattle.eq_base.specs.Tree.{nth_subtree, size}
use Rattle.eq_base.specs.Operations.{IsPast}
use Rattle.eq_base.proofs.Trees.{size-map_heads, nth_subtree-map_heads}
use Rattle.symbol_table.specs.Reading.{read, read_head, read_system}
use Rattle.orthogonal_laws.proofs.past.first_past.Goals as goal

pub returns-then-is_past : goal.returns-then-is_past
returns-then-is_past c =
    let table = c.args.symbols.now in
    let t = c.args.term.now in
    let lt : c.loop-at.at < size t = omega arith in
    let past = subst (λ rules. IsPast (read_system table rules) (read table (nth_subtree t c.loop-at.at))) c.rules-rules.ensures.value (c.is_past.ensures.0 c.if-is_past.true) in
    record {
      there = subst (λ z. c.loop-at.at < z) (sym (size-map_heads (read_head table) t)) lt;
      past = subst (λ s. IsPast (read_system table c.args.regular.now) s) (sym (nth_subtree-map_heads (read_head table) t c.loop-at.at lt)) past;
      before = λ k below p.
          c.loop-at.invariant k below
          (subst (λ rules. IsPast (read_system table rules) (read table (nth_subtree t k))) (sym c.rules-rules.ensures.value)
          (subst (λ s. IsPast (read_system table c.args.regular.now) s) (nth_subtree-map_heads (read_head table) t k (omega arith)) p));
    }

pub returns : goal.returns
returns c =
    λ k below p.
    let table = c.args.symbols.now in
    let t = c.args.term.now in
    let lt : k < size t = subst (λ z. k < z) (size-map_heads (read_head table) t) below in
    c.loop-at.invariant k (omega arith)
    (subst (λ rules. IsPast (read_system table rules) (read table (nth_subtree t k))) (sym c.rules-rules.ensures.value)
    (subst (λ s. IsPast (read_system table c.args.regular.now) s) (nth_subtree-map_heads (read_head table) t k lt) p))
