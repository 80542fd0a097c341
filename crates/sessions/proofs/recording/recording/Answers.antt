use Rattle.std.proofs.Common.{◌≡◌, ◌+◌, ◌++◌, length, refl, arith}
use Rattle.std.proofs.lemmas.List.{append_assoc, length-append, length-map}
use Rattle.std.proofs.lemmas.List.FromFn.{length-map-range_with_len}
use Rattle.events.specs.Limits.{max_events}
use Rattle.events.specs.Run.{at}
use Rattle.sessions.specs.declared.calls.Call.TheVariants.{Link}
use Rattle.sessions.specs.declared.handed.Handed.TheVariants.{Own}
use Rattle.sessions.specs.Recording.{note_of, loads, notes, links, questions}
use Rattle.sessions.proofs.Recorded.{records, recording_size}
use Rattle.sessions.proofs.Written.{heads_more}
use Rattle.sessions.proofs.recording.recording.Goals as goal

pub overflow_add-linked : goal.overflow_add-linked
overflow_add-linked g c = let (_, loads) = recording_size (g.E.Execution.events c.args.run.now) in omega (arith, (g.met.E.Execution.full c.args.run.now).few)

pub overflow_add-linked-2 : goal.overflow_add-linked-2
overflow_add-linked-2 g c = let (_, loads) = recording_size (g.E.Execution.events c.args.run.now) in omega (arith, (g.met.E.Execution.full c.args.run.now).few)

pub overflow_add-linked-3 : goal.overflow_add-linked-3
overflow_add-linked-3 g c = let (_, loads) = recording_size (g.E.Execution.events c.args.run.now) in omega (arith, (g.met.E.Execution.full c.args.run.now).few)

pub returns-then-calls-linked-clause-writes : goal.returns-then-calls-linked-clause-writes
returns-then-calls-linked-clause-writes g c = let (size, _) = recording_size (g.E.Execution.events c.args.run.now) in (omega arith, refl)

pub returns-then-calls-linked-clause-records : goal.returns-then-calls-linked-clause-records
returns-then-calls-linked-clause-records g c = records _ (g.met.E.Execution.full c.args.run.now)

pub returns-clause-writes : goal.returns-clause-writes
returns-clause-writes g c =
    let es = g.E.Execution.events c.args.run.now in
    let (size, _) = recording_size es in
    let sizes = length-map-range_with_len (λ i. note_of (at es i)) 1 (length es) in
    let links_size = length-map (loads es) (λ i. Link (Own max_events) i (at es i).writer) in
    let noted : c.count-count.result ≡ length (notes es) = omega arith in
    let linked : c.count-count.result + c.load_count.result ≡ length (notes es ++ links es) = omega (arith, length-append (notes es) (links es)) in
    let first = heads_more (notes es) (links es) _ _ _ _ noted c.write_notes.ensures c.write_links.ensures in
    let all = heads_more (notes es ++ links es) (questions es) _ _ _ _ linked first c.write_questions.ensures in
    (omega arith, omega arith, rw (append_assoc (notes es) (links es) (questions es)) at all)

pub returns-clause-records : goal.returns-clause-records
returns-clause-records g c = records _ (g.met.E.Execution.full c.args.run.now)

-- where there are as many places as any run needs, there is room
pub returns-then-calls-linked-clause-enough : goal.returns-then-calls-linked-clause-enough
returns-then-calls-linked-clause-enough g c room = let (_, loads) = recording_size (g.E.Execution.events c.args.run.now) in absurd (omega (arith, (g.met.E.Execution.full c.args.run.now).few))
