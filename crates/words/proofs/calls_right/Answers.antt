use Rattle.std.proofs.Common.{rules, ◌≡◌, ◌≤◌, ◌%◌, length, arith}
use Rattle.std.proofs.lemmas.Bool.Decides.{nat_tests}
use Rattle.std.specs.Slice.Iter.{chunks_exact_rest, chunks_exact_size}
use Rattle.words.proofs.Listing.{too_many, not_by_four}
use Rattle.words.proofs.Chunks.{decided}
use Rattle.words.proofs.calls_right.Goals as goal
use Rattle.words.proofs.calls_right.Goals.{then-calls-le-WORDS_MOST, else-calls-le-WORDS_MOST}

pub returns-then-calls-eq0 : goal.returns-then-calls-eq0
returns-then-calls-eq0 c =
    let e = c.chunks_exact.ensures in
    let few : length c.args.calls.now ≤ 1024 = elim c.if-calls-le-WORDS_MOST.branch [ then-calls-le-WORDS_MOST w ↦ omega arith | else-calls-le-WORDS_MOST w ↦ absurd (grind (arith, nat_tests)) ] in
    let whole : length c.args.calls.now % 4 ≡ 0 = elim c.if-calls-le-WORDS_MOST.branch [ then-calls-le-WORDS_MOST w ↦ grind (arith, nat_tests) | else-calls-le-WORDS_MOST w ↦ absurd (grind (arith, nat_tests)) ] in
    decided _ _ c.args.m c.args.calls.now (λ x b q k. search rules) chunks_exact_size chunks_exact_rest c.chunks_exact.result _ e.runs e.size e.rest c.all.ensures.runs few whole

pub returns-else-calls-eq0 : goal.returns-else-calls-eq0
returns-else-calls-eq0 c = elim c.if-calls-le-WORDS_MOST.branch [ then-calls-le-WORDS_MOST w ↦ not_by_four _ _ _ c.if-calls-eq0.false (grind (arith, nat_tests)) | else-calls-le-WORDS_MOST w ↦ too_many _ _ _ c.if-calls-eq0.false w.if-calls-le-WORDS_MOST.false ]
