-- What became of the events that were noted, told by the calls and their answers alone.
use Rattle.std.specs.Prelude.{◌≡◌, ◌↔◌, ℕ, zero, suc, ◌+◌, ◌-◌, ◌<◌, List, length}
use Rattle.events.specs.Events.{kind_number, mode_number}
use Rattle.events.specs.Run.{at, Within}
use Rattle.events.specs.declared.event.Event.{Event as EventOf}
use Rattle.sessions.specs.Calls.{call_at, answer_at}
use Rattle.sessions.specs.declared.handed.Handed.{Handed}
use Rattle.sessions.specs.declared.calls.Call.{Call}
use Rattle.executions.specs.declared.fault.CheckerFault.{CheckerFault}
use Rattle.executions.specs.declared.fault.CheckerFault.TheVariants.{NoEvent}
use Rattle.sessions.specs.declared.calls.Call.TheVariants.{Note, Link, Retract, Seal, Reopen, Count, Event}
use Rattle.sessions.specs.declared.calls.Answer.{Answer}
use Rattle.sessions.specs.declared.calls.Answer.TheVariants.{Noted, Done, Counted, Shown, NotShown}

-- how many events there are after a call: one more if it noted one, and one less if it took one back
abbrev pub count_step : Call → Answer → ℕ → ℕ
count_step (Note _ _ _ _ _) (Noted i) n = n + 1
count_step (Retract _) Done n = n - 1
count_step _ _ n = n

module _ (calls : List Call) (answers : List Answer) where
  -- the call after k others noted the event e, but for its writer, and gave it the number i
  abbrev pub Notes : ℕ → ℕ → EventOf → Type 0
  Notes k i e =
      (handed : Handed) × (call_at calls k ≡ Note handed e.thread (kind_number e.kind) (mode_number e.mode) e.location)
      × (answer_at answers k ≡ Noted i)

  -- it gave event i the writer w; 0 is none
  abbrev pub Links : ℕ → ℕ → ℕ → Type 0
  Links k i w = (handed : Handed) × (call_at calls k ≡ Link handed i w) × (answer_at answers k ≡ Done)

  -- after the first k calls
  abbrev pub count_after : ℕ → ℕ
  count_after zero = 0
  count_after (suc k) = count_step (call_at calls k) (answer_at answers k) (count_after k)

  -- it took event i back, the last that there was
  abbrev pub TakesBack : ℕ → ℕ → Type 0
  TakesBack k i = (handed : Handed) × (call_at calls k ≡ Retract handed) × (answer_at answers k ≡ Done) × (count_after k ≡ i)

  -- of the calls after one and before another, the last that gave event i a writer gave it w; or none did, and w is 0
  pub data LastWriter (since until i : ℕ) : ℕ → Type 0 where
    never : ((k w : ℕ) → since < k → k < until → ¬ Links k i w) → LastWriter since until i 0
    last : {k w : ℕ} → since < k → k < until → Links k i w → ((j v : ℕ) → k < j → j < until → ¬ Links j i v) → LastWriter since until i w

  -- e was noted as number i by one of the first n calls, was not taken back since, and has the last writer that it was given
  pub record Stands (n i : ℕ) (e : EventOf) : Type 0 where
    pub noted : ℕ
    pub before : noted < n
    pub notes : Notes noted i e
    pub stays : (k : ℕ) → noted < k → k < n → ¬ TakesBack k i
    pub writer : LastWriter noted n i e.writer

  -- the run es has just the events that stand after the first n calls
  abbrev pub HoldsWhatStands : ℕ → List EventOf → Type 0
  HoldsWhatStands n es = (length es ≡ count_after n) × ((i : ℕ) (e : EventOf) → (Within es i × (at es i ≡ e)) ↔ Stands n i e)

  -- the call after k others sealed the record, or opened it again
  abbrev pub Seals : ℕ → Type 0
  Seals k = (handed : Handed) × (call_at calls k ≡ Seal handed) × (answer_at answers k ≡ Done)

  abbrev pub Reopens : ℕ → Type 0
  Reopens k = (call_at calls k ≡ Reopen) × (answer_at answers k ≡ Done)

  -- one of the first n calls sealed the record, and none opened it again since
  pub record IsSealed (n : ℕ) : Type 0 where
    pub sealed : ℕ
    pub before : sealed < n
    pub seals : Seals sealed
    pub stays : (k : ℕ) → sealed < k → k < n → ¬ Reopens k

  -- the call after k others is told how many events there are, of an event, or that there is no such event, exactly if it asks,
  -- the record is sealed, and that is so
  pub record TellsWhatStands (k : ℕ) : Type 0 where
    pub count : (n : ℕ) → (answer_at answers k ≡ Counted n) ↔ ((call_at calls k ≡ Count) × IsSealed k × (n ≡ count_after k))
    pub event : (e : EventOf) → (answer_at answers k ≡ Shown e) ↔ ((i : ℕ) × (call_at calls k ≡ Event i) × IsSealed k × Stands k i e)
    pub none :
        (f : CheckerFault) → (answer_at answers k ≡ NotShown f)
        ↔ ((i : ℕ) × (call_at calls k ≡ Event i) × IsSealed k × ((e : EventOf) → ¬ Stands k i e) × (f ≡ NoEvent i))
