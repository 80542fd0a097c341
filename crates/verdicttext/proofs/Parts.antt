-- The text of an order, store by store.
use Rattle.std.proofs.Common.{◌≡◌, ℕ, ◌+◌, ◌<◌, List, [], ◌∷◌, ◌++◌, codes, decimal, map, length, take, get_or, Some, None, sym, refl, ap, subst, ◌∙◌, append-nil, append_assoc}
use Rattle.std.specs.Prelude.{Option, ◌==◌}
use Rattle.std.specs.List.{join_with_byte, flat_map}
use Rattle.std.proofs.lemmas.List.{take_more}
use Rattle.std.proofs.lemmas.Bool.{cond_both, cond-true, cond-false}
use Rattle.events.specs.declared.event.Event.{Event}
use Rattle.verdicttext.specs.Groups.{location, groups, onto_groups}
use Rattle.verdicttext.specs.Store.{first_text, store_text}
use Rattle.verdicttext.specs.Text.{marked, space, less, group_word, order_words}

module _ (es : List Event) where
  abbrev first_part : ℕ → List ℕ
  first_part a = first_text (location es a) a

  abbrev part : Option ℕ → ℕ → List ℕ
  part p a = store_text p (location es a) a

  abbrev pub parts : Option ℕ → List ℕ → List ℕ
  parts p [] = []
  parts p (a ∷ o) = store_text p (location es a) a ++ parts (Some (location es a)) o

  abbrev pub last_location : Option ℕ → List ℕ → Option ℕ
  last_location p [] = p
  last_location p (a ∷ o) = last_location (Some (location es a)) o

  last_more : (p : Option ℕ) (o : List ℕ) (a : ℕ) → last_location p (o ++ a ∷ []) ≡ Some (location es a)
  last_more p [] a = refl
  last_more p (b ∷ o) a = last_more (Some (location es b)) o a

  parts_append : (p : Option ℕ) (o q : List ℕ) → parts p (o ++ q) ≡ parts p o ++ parts (last_location p o) q
  parts_append p [] q = refl
  parts_append p (b ∷ o) q =
      ap (λ l. part p b ++ l) (parts_append (Some (location es b)) o q) ∙ sym (append_assoc (part p b) _ _)

  abbrev groups_text : List (List ℕ) → List ℕ
  groups_text gs = flat_map (marked space) (map (group_word es) gs)

  -- the same without the location of the first group
  abbrev open_text : List (List ℕ) → List ℕ
  open_text [] = []
  open_text (g ∷ gs) = join_with_byte less (map decimal g) ++ groups_text gs

  -- the groups begin with b, and with the text t after it
  record Begins (b : ℕ) (t : List ℕ) (gs : List (List ℕ)) : Type 0 where
    group : List ℕ
    others : List (List ℕ)
    shape : gs ≡ (b ∷ group) ∷ others
    text : open_text gs ≡ decimal b ++ t

  begins_whole : (b : ℕ) (t : List ℕ) (gs : List (List ℕ)) → Begins b t gs → groups_text gs ≡ first_part b ++ t
  begins_whole b t gs h =
      let place = decimal (location es b) in
      let word = join_with_byte less (map decimal (b ∷ h.group)) in
      ap groups_text h.shape
      ∙ (ap (λ l. space ∷ l) (append_assoc place (codes ":" ++ word) (groups_text h.others))
      ∙ (ap (λ l. space ∷ (place ++ (codes ":" ++ l))) (ap open_text (sym h.shape) ∙ h.text)
      ∙ ap (λ l. space ∷ l) (sym (append_assoc place (codes ":" ++ decimal b) t))))

  begins_onto : (a b : ℕ) (t : List ℕ) (g : List ℕ) (gs : List (List ℕ)) → open_text ((b ∷ g) ∷ gs) ≡ decimal b ++ t
      → Begins a (part (Some (location es a)) b ++ t) (onto_groups es a ((b ∷ g) ∷ gs))
  begins_onto a b t g gs text =
      cond_both (location es a == location es b) _ _ (Begins a (part (Some (location es a)) b ++ t))
      (λ same. record {
        group = b ∷ g;
        others = gs;
        shape = refl;
        text = append_assoc (decimal a) (less ∷ join_with_byte less (map decimal (b ∷ g))) (groups_text gs)
            ∙ (ap (λ l. decimal a ++ (less ∷ l)) text ∙ ap (λ l. decimal a ++ (l ++ t)) (sym (cond-true _ _ _ same)));
      })
      (λ other. record {
        group = [];
        others = (b ∷ g) ∷ gs;
        shape = refl;
        text = ap (λ l. decimal a ++ l) (begins_whole b t _ (record { group = g; others = gs; shape = refl; text = text })
            ∙ ap (λ l. l ++ t) (sym (cond-false _ _ _ other)));
      })

  begins : (a : ℕ) (o : List ℕ) → Begins a (parts (Some (location es a)) o) (groups es (a ∷ o))
  begins a [] = record { group = []; others = []; shape = refl; text = refl }
  begins a (b ∷ o) =
      let h = begins b o in
      subst (λ gs. Begins a (parts (Some (location es a)) (b ∷ o)) (onto_groups es a gs)) (sym h.shape)
      (begins_onto a b _ h.group h.others (ap open_text (sym h.shape) ∙ h.text))

  pub parts_are : (o : List ℕ) → parts None o ≡ flat_map (marked space) (order_words es o)
  parts_are [] = refl
  parts_are (a ∷ o) = sym (begins_whole a _ _ (begins a o))

  -- one store more, at place i and at location l
  module _ (o : List ℕ) (i l : ℕ) (here : Option ℕ) (within : i < length o) (known : here ≡ last_location None (take i o))
      (at : l ≡ location es (get_or o i 0)) where
    pub here_more : Some l ≡ last_location None (take (i + 1) o)
    here_more =
        ap (λ n. Some n) at ∙ (sym (last_more None (take i o) (get_or o i 0)) ∙ ap (last_location None) (sym (take_more o i 0 within)))

    abbrev pub piece : List ℕ
    piece = store_text here l (get_or o i 0)

    is_part : part (last_location None (take i o)) (get_or o i 0) ≡ piece
    is_part = ap (λ p. part p (get_or o i 0)) (sym known) ∙ ap (λ n. store_text here n (get_or o i 0)) (sym at)

    pub text_more : parts None (take i o) ++ piece ≡ parts None (take (i + 1) o)
    text_more =
        ap (λ t. parts None (take i o) ++ t) (sym (append-nil piece) ∙ ap (λ t. t ++ []) (sym is_part))
        ∙ (sym (parts_append None (take i o) (get_or o i 0 ∷ [])) ∙ ap (parts None) (sym (take_more o i 0 within)))
