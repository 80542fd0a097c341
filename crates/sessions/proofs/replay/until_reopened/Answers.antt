use Rattle.std.proofs.Common.{◌≡◌, length, min, sym, ◌∙◌, arith}
use Rattle.std.proofs.lemmas.List.{get_or_default}
use Rattle.sessions.proofs.Carried.{stays_sealed, is_reopened}
use Rattle.sessions.proofs.replay.until_reopened.Goals as goal

pub returns-in-Reopen : goal.returns-in-Reopen
returns-in-Reopen c =
    let calls = c.args.calls.now in
    let k = c.loop-k.k in
    let call = c.index-calls-k.result in
    let next = is_reopened _ calls _ _ _ k _ call c.loop-k.invariant c.loop-k.auto.k (omega arith) (omega arith) (λ d. get_or_default calls k d call (omega arith) ∙ sym c.index-calls-k.is) c.sealed_answer.ensures c.in-Reopen.is c.loop-k.auto.answers in
    rw c.reopen.ensures next

pub loop-k-preserved : goal.loop-k-preserved
loop-k-preserved c =
    let calls = c.args.calls.now in
    let k = c.loop-k.k in
    let call = c.index-calls-k.result in
    stays_sealed _ calls _ _ _ k _ call c.loop-k.invariant c.loop-k.auto.k (omega arith) (omega arith) (λ d. get_or_default calls k d call (omega arith) ∙ sym c.index-calls-k.is) c.sealed_answer.ensures c.in_default.not-Reopen

pub returns : goal.returns
returns c = let last : min (length c.args.calls.now) (length c.args.answers.now) ≡ c.loop-k.k = omega arith in rw last c.loop-k.invariant
