use Rattle.std.proofs.Common.{rules}
use Rattle.events.proofs.Fields.{checks}
use Rattle.events.proofs.raw.EventTryFromRawEvent.try_from.Goals as goal

pub returns-then-not-contains : goal.returns-then-not-contains
returns-then-not-contains c = checks _ _ (search rules)

pub returns-in_err-kind : goal.returns-in_err-kind
returns-in_err-kind c = checks _ _ (search rules)

pub returns-in_err-mode : goal.returns-in_err-mode
returns-in_err-mode c = checks _ _ (search rules)

pub returns-then-not-allows : goal.returns-then-not-allows
returns-then-not-allows c = checks _ _ (search rules)

pub returns-then-not-has_location : goal.returns-then-not-has_location
returns-then-not-has_location c = checks _ _ (search rules)

pub returns : goal.returns
returns c = checks _ _ (search rules)
