use Rattle.std.proofs.Common.{rules, ◌≡◌, ◌-◌, ap, sym, subst, List, ℕ, [], ◌∷◌, ◌++◌, codes, map, string_bytes, take, drop, length, arith}
use Rattle.command_line.specs.Parts.{Part, operand, AreParts}
use Rattle.command_line.specs.Given.{part_of, AreGiven, AreFew, LeadTo}
use Rattle.command_line.proofs.Leading.{no_operands, lead_dashes, no_first_part, no_more_parts, lead_part}
use Rattle.command_line.proofs.words.given_more.Goals as goal

pub returns-in_err-given-clause-none : goal.returns-in_err-given-clause-none
returns-in_err-given-clause-none c =
    let others = map string_bytes c.args.others.now in
    let is : c.args.word.now ≡ codes "--" = search rules in
    let never : (parts more : List Part) → AreGiven parts c.args.given → AreParts more (c.args.word.now ∷ others) → AreFew (parts ++ more) → ⊥ = λ parts more are written few.
    no_operands c.args.given others c.in_err-given.ensures.none parts more are (subst (λ (w : List ℕ). AreParts more (w ∷ others)) is written) few in
    search rules

pub returns-then-eq-clause-more : goal.returns-then-eq-clause-more
returns-then-eq-clause-more c = λ parts are.
    let others = map string_bytes c.args.others.now in
    let count = length c.args.others.now in
    let is : c.args.word.now ≡ codes "--" = search rules in
    let none : count - count ≡ 0 = omega arith in
    let empty = ap (λ (k : ℕ). map string_bytes (take k (drop count c.args.others.now))) none in
    let lead = subst (λ (rest : List (List ℕ)). LeadTo (map operand others) (codes "--" ∷ others) rest) (sym empty) (lead_dashes others) in
    (map operand others, c.in_ok-given.ensures.some parts are, subst (λ (w : List ℕ). LeadTo (map operand others) (w ∷ others) (map string_bytes (take (count - count) (drop count c.args.others.now)))) (sym is) lead)

pub returns-in_err-part-clause-none : goal.returns-in_err-part-clause-none
returns-in_err-part-clause-none c =
    let others = map string_bytes c.args.others.now in
    let other : c.args.word.now ≡ codes "--" → ⊥ = λ is. search rules in
    let never : (parts more : List Part) → AreGiven parts c.args.given → AreParts more (c.args.word.now ∷ others) → AreFew (parts ++ more) → ⊥ = λ parts more are written few.
    no_first_part c.args.word.now others other c.in_err-part.ensures.none more written in
    search rules

pub returns-in_err-given-2-clause-none : goal.returns-in_err-given-2-clause-none
returns-in_err-given-2-clause-none c =
    let others = map string_bytes c.args.others.now in
    let never : (parts more : List Part) → AreGiven parts c.args.given → AreParts more (c.args.word.now ∷ others) → AreFew (parts ++ more) → ⊥ = λ parts more are written few.
    no_more_parts c.args.given (c.args.word.now ∷ others) (part_of c.in_ok-part.part) (map string_bytes c.in_ok-part.behind.now) c.in_ok-part.ensures.part c.in_err-given-2.ensures.none parts more are written few in
    search rules

pub returns-clause-more : goal.returns-clause-more
returns-clause-more c = λ parts are.
    (part_of c.in_ok-part.part ∷ [], c.in_ok-given-2.ensures.some parts are, lead_part (part_of c.in_ok-part.part) (c.args.word.now ∷ map string_bytes c.args.others.now) (map string_bytes c.in_ok-part.behind.now) c.in_ok-part.ensures.part)
