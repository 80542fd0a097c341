use Rattle.std.proofs.Common.{◌≡◌, ◌∷◌, true, None, Some, ap, sym, ◌∙◌, decimal}
use Rattle.events.specs.Events.{is_access, writer_of}
use Rattle.events.specs.Text.{mode_word, place_words, spaced}
use Rattle.writing.proofs.Laid.{puts_then, puts_as}
use Rattle.events.proofs.text.put_mode_and_place.Goals as goal

pub returns-in-None : goal.returns-in-None
returns-in-None c =
    let e = c.args.event.now in
    let access : true ≡ is_access e.kind = sym c.if-not-is_access.false ∙ c.is_access.ensures in
    let writer : None ≡ writer_of e = sym c.in-None.is ∙ c.reads_from.ensures in
    let mode = puts_as (c.as_bytes.ensures.value ∙ c.word.ensures) c.put-at.ensures in
    let location = puts_as (ap decimal c.from.ensures) c.put_number-at.ensures in
    puts_as (λ k. spaced (mode_word e.mode ∷ place_words (access k) e.location (writer k)))
    (puts_then mode (puts_then c.put-at-2.ensures location))

pub returns-in-Some : goal.returns-in-Some
returns-in-Some c =
    let e = c.args.event.now in
    let access : true ≡ is_access e.kind = sym c.if-not-is_access.false ∙ c.is_access.ensures in
    let writer : Some c.in-Some.writer ≡ writer_of e = sym c.in-Some.is ∙ c.reads_from.ensures in
    let mode = puts_as (c.as_bytes.ensures.value ∙ c.word.ensures) c.put-at.ensures in
    let location = puts_as (ap decimal c.from.ensures) c.put_number-at.ensures in
    let from = puts_as (ap decimal c.from-in-Some.ensures) c.put_number.ensures in
    puts_as (λ k. spaced (mode_word e.mode ∷ place_words (access k) e.location (writer k)))
    (puts_then mode (puts_then c.put-at-2.ensures (puts_then location (puts_then c.put-at-in-Some.ensures from))))
