-- The vectors of mentions and of open heads.
use Rattle.std.proofs.Common.{◌≡◌, ℕ, zero, suc, ◌+◌, ◌-◌, ◌<◌, List, [], ◌∷◌, ◌++◌, length, map, reverse, set, get_or, Option, Some, None, refl, sym, ap, ◌∙◌, subst, arith, add-one, length-append, ◌↔◌}
use Rattle.std.specs.Prelude.{slice_get, IsSome, option_to_list, All}
use Rattle.std.proofs.lemmas.List.{append-nil, map-append, reverse-reverse, reverse-append}
use Rattle.std.proofs.lemmas.Option.{get_or_from_slice_get, slice_get_within}
use Rattle.std.proofs.Math.Seq.{get_or-append_seam}
use Rattle.term_lex.specs.declared.token.Token.{Token}
use Rattle.written_terms.specs.declared.mention.Mention.{Mention}
use Rattle.written_terms.specs.Mentions.{pair_of}
use Rattle.standmath.specs.Mentions.{met_of, met_head, increased, counted, without_first}

-- the last open head is the innermost
last_read_as : (rs ns : List ℕ) (n : ℕ) → reverse ns ≡ rs → slice_get ns (length ns - 1) ≡ Some n → (rest : List ℕ) × (reverse ns ≡ n ∷ rest)
last_read_as [] ns n e read =
    let none : ns ≡ [] = sym (reverse-reverse ns) ∙ ap reverse e in
    let no : None ≡ Some n = ap (λ xs. slice_get xs (length xs - 1)) (sym none) ∙ read in
    cc
last_read_as (m ∷ rest) ns n e read =
    let same : ns ≡ reverse rest ++ m ∷ [] = sym (reverse-reverse ns) ∙ ap reverse e ∙ reverse-append (m ∷ []) rest in
    let at : length ns - 1 ≡ length (reverse rest) = omega (arith, ap length same, length-append (reverse rest) (m ∷ [])) in
    let is : get_or ns (length ns - 1) 0 ≡ n = get_or_from_slice_get ns (length ns - 1) n 0 read in
    let here : m ≡ n = sym (get_or-append_seam (reverse rest) m [] 0) ∙ ap (λ k. get_or (reverse rest ++ m ∷ []) k 0) (sym at) ∙ ap (λ xs. get_or xs (length ns - 1) 0) (sym same) ∙ is in
    (rest, e ∙ ap (λ k. k ∷ rest) here)

last_read : (ns : List ℕ) (n : ℕ) → slice_get ns (length ns - 1) ≡ Some n → (rest : List ℕ) × (reverse ns ≡ n ∷ rest)
last_read ns n read = last_read_as (reverse ns) ns n refl read

-- without the last, the innermost is gone
pub popped : (old new : List ℕ) (len : ℕ) (o : Option ℕ) → len ≡ length old → old ≡ new ++ option_to_list o → IsSome o ↔ (0 < len) → reverse new ≡ without_first (reverse old)
popped old new len (Some n) is e some = ap without_first (sym (ap reverse e ∙ reverse-append new (n ∷ [])))
popped [] new len None is e some = let none : new ≡ [] = sym (e ∙ append-nil new) in ap reverse none
popped (n ∷ ns) new len None is e some = let no : IsSome {T = ℕ} None = some.1 (omega arith) in cc

-- one more argument of a head, and a new head behind
one_more : (ms : List Mention) (n : ℕ) (m new : Mention) → n < length ms → m ≡ get_or (ms ++ new ∷ []) n m → map pair_of (set (ms ++ new ∷ []) n (record { token = m.token; args = m.args + 1 })) ≡ increased n (map pair_of ms) ++ pair_of new ∷ []
one_more [] n m new lt is = absurd (omega arith)
one_more (h ∷ hs) zero m new lt is =
    let more : m.args + 1 ≡ suc h.args = add-one m.args ∙ ap (λ (x : Mention). suc x.args) is in
    cc (more, map-append pair_of hs (new ∷ []))
one_more (h ∷ hs) (suc n) m new lt is = ap (λ l. pair_of h ∷ l) (one_more hs n m new (omega arith) is)

-- the innermost head is one of the mentions
last_inside : (ns : List ℕ) (n k : ℕ) → All (λ number. number < k) ns → slice_get ns (length ns - 1) ≡ Some n → n < k
last_inside ns n k all read =
    let at = length ns - 1 in
    subst (λ m. m < k) (get_or_from_slice_get ns at n 0 read) (all at 0 (slice_get_within ns at n read))

-- a name or a literal, pushed and counted
pub head_taken : (mentions pushed : List Mention) (opened : List ℕ) (n : ℕ) (t : Token) (m : Mention) → pushed ≡ mentions ++ record { token = t; args = 0 } ∷ [] → slice_get opened (length opened - 1) ≡ Some n → All (λ number. number < length mentions) opened → m ≡ get_or pushed n m → met_of (set pushed n (record { token = m.token; args = m.args + 1 })) opened ≡ met_head t (met_of mentions opened)
head_taken mentions pushed opened n t m is read inside here =
    let new : Mention = record { token = t; args = 0 } in
    let lt = last_inside opened n (length mentions) inside read in
    let last = last_read opened n read in
    let reversed : n ∷ last.0 ≡ reverse opened = sym last.1 in
    let heads : map pair_of (set pushed n (record { token = m.token; args = m.args + 1 })) ≡ counted (reverse opened) (map pair_of mentions) ++ (t, 0) ∷ [] =
    ap (λ l. map pair_of (set l n (record { token = m.token; args = m.args + 1 }))) is
    ∙ one_more mentions n m new lt (here ∙ ap (λ l. get_or l n m) is)
    ∙ ap (λ ns. counted ns (map pair_of mentions) ++ (t, 0) ∷ []) reversed in
    ap (λ hs. record { heads = hs; open_heads = reverse opened }) heads
