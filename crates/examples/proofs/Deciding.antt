-- Decisions of what is said of a run: its relations, its chains, the order that is laid, and its violations.
use Rattle.std.proofs.Common.{◌≡◌, inl, inr, Bool, true, false, ℕ, suc, ◌<◌, ◌+◌, ◌-◌, List, [], ◌∷◌, length, get_or, refl, sym, subst, ap, ◌∙◌, arith}
use Rattle.std.proofs.Math.Decide.{ℕ_discrete, dec_lt, dec_le, map_dec}
use Rattle.std.proofs.lemmas.Bool.{false≢true}
use Rattle.events.specs.Events.{is_load, is_store, kind_number}
use Rattle.events.specs.Run.{at, Within, Load, Store, Write, Update, SameLocation}
use Rattle.events.specs.Graph.{Po, Rf, Inside}
use Rattle.events.specs.Relations.{Rel, ◌∪◌, ◌？, ◌⁻¹, ◌⁺}
use Rattle.events.specs.declared.event.Event.{Event}
use Rattle.events.specs.declared.event.Kind.{Kind}
use Rattle.events.specs.declared.event.Kind.TheVariants.{Write as WriteKind, Update as UpdateKind}
use Rattle.models.specs.Orders.{ListsStores, Before, location_at}
use Rattle.toposort.proofs.Laws.{one_listing}
use Rattle.verdicts.specs.Absent.{NoTwins, NoWeak, NoBack}
use Rattle.verdicts.specs.Chains.{InChain, SameChain, BeforeInChain}
use Rattle.verdicts.specs.Steps.{TwoStores, Overwrites, BeforeStep, ReadStep, ReadSteps, StoreStep, ChainStep}
use Rattle.verdicts.specs.Layings.{ChainReady, ChainTurn, LaysChains, ReadsOff, LaysEvents}
use Rattle.verdicts.specs.Numbers.{sort_number, sort_load}
use Rattle.verdicts.specs.Violations.{AreTwins, Violates, Leads, IsPoOrRf, IsBeforeOrRead, IsHbOrRead, StepHolds, step_at, Cycle, SameEvent, AtLocation, StepsBack}
use Rattle.verdicts.specs.declared.step.Sort.{Sort}
use Rattle.verdicts.specs.declared.step.Sort.TheVariants as sort
use Rattle.verdicts.specs.declared.step.Step.{Step}
use Rattle.verdicts.specs.declared.violation.Violation.{Violation}
use Rattle.verdicts.specs.declared.violation.Violation.TheVariants as violation
use Rattle.models.specs.declared.scope.Scope.{Scope}
use Rattle.models.specs.declared.scope.Scope.TheVariants.{Location, Whole, Weak}
use Rattle.judge.specs.Judges.{NoUpdate, LowestUpdate}
use Rattle.examples.proofs.Decisions.{dec_and, dec_and3, dec_and4, dec_then, dec_or, dec_if, dec_not, dec_each, dec_some, dec_where, dec_all, dec_comp, dec_optional}
use Rattle.examples.proofs.Listing.{dec_placed, dec_listing}
use Rattle.examples.proofs.Tables.{Tables, dec_listed}

abbrev pub dec_true : (b : Bool) → Dec (b ≡ true)
dec_true true = yes refl
dec_true false = no false≢true

pub kind_same : (k j : Kind) → kind_number k ≡ kind_number j → k ≡ j
kind_same k j e = grind arith

abbrev pub dec_kind : (k j : Kind) → Dec (k ≡ j)
dec_kind k j = map_dec (kind_same k j) (ap kind_number) (ℕ_discrete (kind_number k) (kind_number j))

module _ (es : List Event) where
  -- every event is below it
  abbrev pub bound : ℕ
  bound = suc (length es)

  pub within_low : (i : ℕ) → Within es i → i < bound
  within_low i w = let high = w.1 in omega arith

  abbrev pub dec_within : (i : ℕ) → Dec (Within es i)
  dec_within i = dec_and (dec_le 1 i) (dec_le i (length es))

  abbrev pub dec_load : (i : ℕ) → Dec (Load es i)
  dec_load i = dec_and (dec_within i) (dec_true (is_load (at es i).kind))

  abbrev pub dec_store : (i : ℕ) → Dec (Store es i)
  dec_store i = dec_and (dec_within i) (dec_true (is_store (at es i).kind))

  abbrev pub dec_write : (i : ℕ) → Dec (Write es i)
  dec_write i = dec_and (dec_within i) (dec_kind (at es i).kind WriteKind)

  abbrev pub dec_update : (i : ℕ) → Dec (Update es i)
  dec_update i = dec_and (dec_within i) (dec_kind (at es i).kind UpdateKind)

  abbrev pub dec_location : (a b : ℕ) → Dec (SameLocation es a b)
  dec_location a b = ℕ_discrete (at es a).location (at es b).location

  abbrev pub dec_po : (a b : ℕ) → Dec (Po es a b)
  dec_po a b = dec_and4 (dec_within a) (dec_within b) (ℕ_discrete (at es a).thread (at es b).thread) (dec_lt a b)

  abbrev pub dec_rf : (w r : ℕ) → Dec (Rf es w r)
  dec_rf w r = dec_and (dec_load r) (ℕ_discrete (at es r).writer w)

  abbrev pub dec_two : (a b : ℕ) → Dec (TwoStores es a b)
  dec_two a b = dec_and4 (dec_store a) (dec_store b) (dec_location a b) (dec_not (ℕ_discrete a b))

  pub update_load : (u : ℕ) → Update es u → Load es u
  update_load u is = grind arith

  abbrev pub dec_no_update : Dec (NoUpdate es)
  dec_no_update = dec_all bound _ (λ u q is. q (within_low u (is.0)) is) (λ u. dec_not (dec_update u))

  abbrev pub dec_lowest : (u : ℕ) → Dec (LowestUpdate es u)
  dec_lowest u = dec_and (dec_update u) (dec_each u _ (λ v. dec_not (dec_update v)))

  abbrev pub dec_twins : (u v : ℕ) → Dec (AreTwins es u v)
  dec_twins u v =
      dec_and4 (dec_lt u v) (dec_update u) (dec_update v)
      (map_dec (λ (l, k). ((at es u).writer, (l, refl), k)) (λ (w, f, k). (f.0, rw (f.1) k))
      (dec_and (dec_load u) (dec_rf (at es u).writer v)))

  abbrev pub dec_no_twins : Dec (NoTwins es)
  dec_no_twins =
      map_dec (λ d u v w a b f k. d u (within_low u (a.0)) v (within_low v (b.0)) (a, b, f.1 ∙ sym (k.1)))
      (λ single u _ v _ (a, b, e). single u v (at es u).writer a b (update_load u a, refl) (update_load v b, sym e))
      (dec_each bound _ (λ u. dec_each bound _
      (λ v. dec_if (dec_and3 (dec_update u) (dec_update v) (ℕ_discrete (at es u).writer (at es v).writer)) (ℕ_discrete u v))))

  abbrev pub dec_lists : (o : List ℕ) → Dec (ListsStores es o)
  dec_lists o =
      map_dec
      (λ (s, a, c, r). record { stores = s; all = a; once = λ i j lt to. c j to i lt; rising = λ i j lt to. r j to i lt })
      (λ l. (l.stores, l.all, (λ j to i lt. l.once i j lt to), (λ j to i lt. l.rising i j lt to)))
      (dec_and4
      (dec_each (length o) _ (λ i. dec_store (get_or o i 0)))
      (dec_all bound _ (λ w q s. q (within_low w (s.0)) s) (λ w. dec_if (dec_store w) (dec_placed o (length o) w)))
      (dec_each (length o) _ (λ j. dec_each j _ (λ i. dec_not (ℕ_discrete (get_or o i 0) (get_or o j 0)))))
      (dec_each (length o) _ (λ j. dec_each j _ (λ i. dec_le (location_at es o i) (location_at es o j)))))

  abbrev pub dec_stands_before : (l : List ℕ) (a b : ℕ) → Dec (Before l a b)
  dec_stands_before l a b =
      map_dec (λ (j, lt, (e, (i, less, f))). (i, j, less, lt, f, e)) (λ (i, j, less, lt, f, e). (j, lt, (e, (i, less, f))))
      (dec_some (length l) _ (λ j. dec_and (ℕ_discrete (get_or l j 0) b) (dec_placed l j a)))

  abbrev pub dec_reads_off : (l o : List ℕ) → Dec (ReadsOff es l o)
  dec_reads_off l o =
      map_dec (λ (s, a). record { lists = s; along = λ i j less lt there. a j lt i less there })
      (λ off. (off.lists, (λ j lt i less there. off.along i j less lt there)))
      (dec_and (dec_lists o)
      (dec_each (length o) _ (λ j. dec_each j _
      (λ i. dec_if (dec_location (get_or o i 0) (get_or o j 0)) (dec_stands_before l (get_or o i 0) (get_or o j 0))))))

pub sort_same : (s t : Sort) → sort_number s ≡ sort_number t → sort_load s ≡ sort_load t → s ≡ t
sort_same s t e f = grind arith

abbrev pub dec_sort : (s t : Sort) → Dec (s ≡ t)
dec_sort s t =
    map_dec (λ (e, f). sort_same s t e f) (λ e. (ap sort_number e, ap sort_load e))
    (dec_and (ℕ_discrete (sort_number s) (sort_number t)) (ℕ_discrete (sort_load s) (sort_load t)))

abbrev pub dec_is_read : (s : Sort) → Dec ((r : ℕ) × (s ≡ sort.Read r))
dec_is_read s =
    map_dec (λ e. (sort_load s, e)) (λ (r, e). e ∙ sym (ap (λ t. sort.Read (sort_load t)) e))
    (dec_sort s (sort.Read (sort_load s)))

abbrev pub scope_number : Scope → ℕ
scope_number Location = 0
scope_number Whole = 1
scope_number Weak = 2

pub scope_same : (s t : Scope) → scope_number s ≡ scope_number t → s ≡ t
scope_same s t e = grind arith

abbrev pub dec_scope : (s t : Scope) → Dec (s ≡ t)
dec_scope s t = map_dec (scope_same s t) (ap scope_number) (ℕ_discrete (scope_number s) (scope_number t))

pub nil_from : {A : Type 0} (l : List A) → length l ≡ 0 → l ≡ []
nil_from [] e = refl
nil_from (x ∷ l) e = absurd (omega arith)

abbrev pub dec_nil : {A : Type 0} (l : List A) → Dec (l ≡ [])
dec_nil l = map_dec (nil_from l) (ap length) (ℕ_discrete (length l) 0)

abbrev pub dec_cycle : (Same : Rel) → ((a b : ℕ) → Dec (Same a b)) → (Holds : Step → Type 0) → ((s : Step) → Dec (Holds s)) →
    (ss : List Step) → Dec (Cycle Same Holds ss)
dec_cycle Same same Holds holds ss =
    map_dec
    (λ (t, s, (j, c, a)). record {
      two = t;
      steps = s;
      joined = λ i lt. j i (omega arith) lt;
      closed = c;
      apart = λ i k lt to. a k to i lt;
    })
    (λ c. (c.two, c.steps, ((λ i _ lt. c.joined i lt), c.closed, (λ k to i lt. c.apart i k lt to))))
    (dec_and3 (dec_le 2 (length ss)) (dec_each (length ss) _ (λ i. holds (step_at ss i)))
    (dec_and3
    (dec_each (length ss) _ (λ i. dec_if (dec_lt (i + 1) (length ss)) (same (step_at ss i).to (step_at ss (i + 1)).from)))
    (same (step_at ss (length ss - 1)).to (step_at ss 0).from)
    (dec_each (length ss) _ (λ k. dec_each k _ (λ i. dec_not (same (step_at ss i).from (step_at ss k).from))))))

-- of a happens-before that is decided, and with the pairs that paths of reads-from join
module _ (es : List Event) (hb : Rel) (inside : Inside es hb) (dec : (a b : ℕ) → Dec (hb a b)) (f : List ℕ) (paths : Tables (Rf es) f) where
  pub before_low : (x b : ℕ) → (hb ？) x b → Store es b → x < bound es
  before_low x b (inl e) s = within_low es x (subst (λ z. Within es z) (sym e) (s.0))
  before_low x b (inr h) s = within_low es x ((inside x b h).0)

  abbrev pub dec_writer : (a x : ℕ) → Dec ((Rf es ？) a x)
  dec_writer a x = dec_optional (Rf es) a x (dec_rf es a x)

  abbrev pub dec_before : (a b : ℕ) → Dec (BeforeStep es hb a b)
  dec_before a b =
      dec_then (dec_two es a b)
      (λ t. dec_comp (bound es) (Rf es ？) (hb ？) a b (λ x _ h. before_low x b h (t.1)) (dec_writer a)
      (λ x. dec_optional hb x b (dec x b)))

  abbrev pub dec_read : (r a b : ℕ) → Dec (ReadStep es hb r a b)
  dec_read r a b =
      map_dec (λ (f, (t, h)). (t, h, f)) (λ (t, h, f). (f, (t, h)))
      (dec_and (dec_rf es b r) (dec_and (dec_two es a b)
      (dec_comp (bound es) (Rf es ？) hb a r (λ x _ h. within_low es x ((inside x r h).0)) (dec_writer a) (λ x. dec x r))))

  abbrev pub dec_reads : (a b : ℕ) → Dec (ReadSteps es hb a b)
  dec_reads a b = dec_where (bound es) _ (λ r s. within_low es r (s.2.0.0)) (λ r. dec_read r a b)

  abbrev pub dec_store_step : (a b : ℕ) → Dec (StoreStep es hb a b)
  dec_store_step a b = dec_or (dec_before a b) (dec_reads a b)

  pub step_stores : (a b : ℕ) → StoreStep es hb a b → TwoStores es a b
  step_stores a b (inl s) = s.0
  step_stores a b (inr (r, s)) = s.0

  abbrev pub dec_overwrites : (w v r : ℕ) → Dec (Overwrites es hb w v r)
  dec_overwrites w v r = dec_and4 (dec w v) (dec v r) (dec_store es v) (dec_location es w v)

  abbrev pub dec_no_weak : Dec (NoWeak es hb)
  dec_no_weak =
      map_dec (λ d w v r f o. d r (within_low es r (f.0.0)) v (within_low es v (o.2.0)) (f.0) (rw (f.1) o))
      (λ none r _ v _ l o. none (at es r).writer v r (l, refl) o)
      (dec_each (bound es) _ (λ r. dec_each (bound es) _
      (λ v. dec_if (dec_load es r) (dec_not (dec_overwrites (at es r).writer v r)))))

  -- steps, and cycles of them that stay outside chains
  abbrev pub dec_leads : (s : Sort) (a b : ℕ) → Dec (Leads es hb s a b)
  dec_leads sort.Po a b = dec_po es a b
  dec_leads sort.Rf a b = dec_rf es a b
  dec_leads sort.Before a b = dec_before a b
  dec_leads (sort.Read r) a b = dec_read r a b
  dec_leads sort.Hb a b = dec a b

  abbrev pub dec_holds : (Is : Sort → Type 0) → ((s : Sort) → Dec (Is s)) → (s : Step) → Dec (StepHolds Is es hb s)
  dec_holds Is is s = dec_and (is s.sort) (dec_leads s.sort s.from s.to)

  abbrev pub dec_whole : (ss : List Step) → Dec (Cycle SameEvent (StepHolds IsHbOrRead es hb) ss)
  dec_whole ss =
      dec_cycle SameEvent ℕ_discrete (StepHolds IsHbOrRead es hb)
      (dec_holds IsHbOrRead (λ t. dec_or (dec_sort t sort.Hb) (dec_is_read t))) ss

  abbrev pub dec_causal : (ss : List Step) → Dec (Cycle SameEvent (StepHolds IsPoOrRf es hb) ss)
  dec_causal ss =
      dec_cycle SameEvent ℕ_discrete (StepHolds IsPoOrRf es hb)
      (dec_holds IsPoOrRf (λ t. dec_or (dec_sort t sort.Po) (dec_sort t sort.Rf))) ss

  abbrev pub dec_path : (a b : ℕ) → Dec ((Rf es ⁺) a b)
  dec_path a b = map_dec ((paths a b).0) ((paths a b).1) (dec_listed f a b)

  abbrev pub dec_in_chain : (g a : ℕ) → Dec (InChain es g a)
  dec_in_chain g a = dec_and3 (dec_write es g) (dec_optional (Rf es ⁺) g a (dec_path g a)) (dec_store es a)

  abbrev pub dec_same_chain : (a b : ℕ) → Dec (SameChain es a b)
  dec_same_chain a b =
      dec_comp (bound es) (InChain es ⁻¹) (InChain es) a b (λ g p _. within_low es g (p.0.0))
      (λ g. dec_in_chain g a) (λ g. dec_in_chain g b)

  abbrev pub dec_before_in_chain : (b a : ℕ) → Dec (BeforeInChain es b a)
  dec_before_in_chain b a = dec_and (dec_path b a) (dec_store es a)

  abbrev pub dec_no_back : Dec (NoBack es hb)
  dec_no_back =
      map_dec (λ d a b s c. let t = step_stores a b s in d a (within_low es a (t.0.0)) b (within_low es b (t.1.0)) c s)
      (λ none a _ b _ c s. none a b s c)
      (dec_each (bound es) _ (λ a. dec_each (bound es) _
      (λ b. dec_if (dec_before_in_chain b a) (dec_not (dec_store_step a b)))))

  abbrev pub dec_chain_step : (g h : ℕ) → Dec (ChainStep es hb g h)
  dec_chain_step g h =
      dec_and (dec_not (ℕ_discrete g h))
      (map_dec (λ (a, (c, (b, (d, s)))). (a, b, c, d, s)) (λ (a, b, c, d, s). (a, (c, (b, (d, s)))))
      (dec_where (bound es) _ (λ a p. within_low es a (p.0.2.0))
      (λ a. dec_and (dec_in_chain g a)
      (dec_where (bound es) _ (λ b p. within_low es b (p.0.2.0)) (λ b. dec_and (dec_in_chain h b) (dec_store_step a b))))))

  abbrev pub dec_ready : (o : List ℕ) (i h : ℕ) → Dec (ChainReady es hb o i h)
  dec_ready o i h =
      map_dec (λ (w, u, f). record { head = w; unlaid = u; free = f }) (λ r. (r.head, r.unlaid, r.free))
      (dec_and3 (dec_write es h) (dec_not (dec_placed o i h))
      (dec_all (bound es) _ (λ g q w. q (within_low es g (w.0)) w)
      (λ g. dec_if (dec_write es g) (dec_if (dec_not (dec_placed o i g)) (dec_not (dec_chain_step g h))))))

  abbrev pub dec_turn : (o : List ℕ) (i h : ℕ) → Dec (ChainTurn es hb o i h)
  dec_turn o i h =
      map_dec (λ (r, l). record { ready = r; lowest = l }) (λ t. (t.ready, t.lowest))
      (dec_and (dec_ready o i h)
      (dec_all (bound es) _ (λ g q lt same r. q (within_low es g (r.head.0)) lt same r)
      (λ g. dec_if (dec_lt g h) (dec_if (dec_location es g h) (dec_not (dec_ready o i g))))))

  abbrev pub dec_laid : (o : List ℕ) → Dec (LaysChains es hb o)
  dec_laid o =
      map_dec (λ (l, w, t). record { lists = l; whole = w; turns = t }) (λ l. (l.lists, l.whole, l.turns))
      (dec_and3 (dec_lists es o)
      (dec_each (length o) _
      (λ i. dec_if (dec_update es (get_or o i 0)) (dec_and (dec_lt 0 i) (dec_rf es (get_or o (i - 1) 0) (get_or o i 0)))))
      (dec_each (length o) _ (λ i. dec_if (dec_write es (get_or o i 0)) (dec_turn o i (get_or o i 0)))))

  -- the order that is read off the one listing that there may be
  abbrev pub dec_laid_events : (o : List ℕ) → Dec (LaysEvents es hb o)
  dec_laid_events o =
      elim (dec_listing (length es) (hb ∪ ReadSteps es hb) (λ a b. dec_or (dec a b) (dec_reads a b))) [
        | yes (l, t) ↦
            map_dec (λ off. (l, t, off)) (λ (m, u, off). rw (one_listing (length es) (hb ∪ ReadSteps es hb) l m t u) off)
            (dec_reads_off es l o)
        | no none ↦ no (λ (l, t, off). none (l, t))
      ]

  abbrev pub dec_before_or_read : (s : Step) → Dec (StepHolds IsBeforeOrRead es hb s)
  dec_before_or_read s = dec_holds IsBeforeOrRead (λ t. dec_or (dec_sort t sort.Before) (dec_is_read t)) s

  abbrev pub dec_round : (l : ℕ) (ss : List Step) → Dec (Cycle (SameChain es) (AtLocation es hb l) ss)
  dec_round l ss =
      dec_cycle (SameChain es) dec_same_chain (AtLocation es hb l)
      (λ s. dec_and (dec_before_or_read s) (ℕ_discrete (at es s.from).location l)) ss

  abbrev pub dec_steps_back : (s : Step) → Dec (StepsBack es hb s)
  dec_steps_back s = dec_and (dec_before_or_read s) (dec_before_in_chain s.to s.from)

  abbrev pub dec_violates : (scope : Scope) (v : Violation) (ss : List Step) → Dec (Violates scope es hb v ss)
  dec_violates scope (violation.Causal k) ss = dec_and (ℕ_discrete (length ss) k) (dec_causal ss)
  dec_violates scope (violation.Twin u v) ss = dec_and (dec_nil ss) (dec_twins es u v)
  dec_violates scope (violation.Weak w v r) ss =
      dec_and4 (dec_nil ss) (dec_scope scope Weak) (dec_rf es w r) (dec_overwrites w v r)
  dec_violates scope violation.Back ss =
      dec_and3 (ℕ_discrete (length ss) 1) (dec_scope scope Location) (dec_steps_back (step_at ss 0))
  dec_violates scope (violation.Round l k) ss =
      dec_and3 (ℕ_discrete (length ss) k) (dec_scope scope Location) (dec_round l ss)
  dec_violates scope (violation.Whole k) ss = dec_and3 (ℕ_discrete (length ss) k) (dec_scope scope Whole) (dec_whole ss)
