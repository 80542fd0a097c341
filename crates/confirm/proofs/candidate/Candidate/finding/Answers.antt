use Rattle.std.proofs.Common.{refl}
use Rattle.std.proofs.lemmas.Bool.{false≢true}
use Rattle.confirm.proofs.Breaks.{mo_inside}
use Rattle.confirm.proofs.Findings.{first_read, first_atomic, all_hold}
use Rattle.confirm.proofs.candidate.Candidate.finding.Goals as goal

pub returns-then-has_breaking_pair : goal.returns-then-has_breaking_pair
returns-then-has_breaking_pair g c =
    first_read _ _ _ (mo_inside _ _ _ (c.args.self.now.placed)) _ (c.requires.causal) (c.if-not-writes_cohere.ensures.0 refl)
    (c.if-has_breaking_pair.ensures.0 refl)

pub returns-then-has_breaking_pair-2 : goal.returns-then-has_breaking_pair-2
returns-then-has_breaking_pair-2 g c =
    first_atomic _ _ _ (mo_inside _ _ _ (c.args.self.now.placed)) _ (c.requires.causal) (c.if-not-writes_cohere.ensures.0 refl)
    (λ p. false≢true (c.if-has_breaking_pair.ensures.1 p)) (c.if-has_breaking_pair-2.ensures.0 refl)

pub returns-else-has_breaking_pair-2 : goal.returns-else-has_breaking_pair-2
returns-else-has_breaking_pair-2 g c =
    all_hold _ _ _ (mo_inside _ _ _ (c.args.self.now.placed)) _ (c.requires.causal) (c.if-not-writes_cohere.ensures.0 refl)
    (λ p. false≢true (c.if-has_breaking_pair.ensures.1 p)) (λ p. false≢true (c.if-has_breaking_pair-2.ensures.1 p))
