-- The history's holdings and running jobs, read off the past.
use Rattle.std.proofs.Common.{◌≡◌, ℕ, Bool, cond, not, ◌&&◌, ◌||◌, eqb, List, [], ◌∷◌, ◌++◌, map, None, sym, refl, ap, ◌∙◌, ap₂, append_assoc, append-nil, arith}
use Rattle.std.specs.Prelude.{flat_map, filter}
use Rattle.std.specs.List.{list_any}
use Rattle.std.proofs.lemmas.List.{map-id}
use Rattle.std.proofs.lemmas.List.Concat.{flat_map-append, flat_map_single}
use Rattle.terms.specs.declared.calls.Call.{Call}
use Rattle.terms.specs.declared.calls.Call.TheVariants.{Begin, Lock, Image, Commit, Abort}
use Rattle.protocol.specs.declared.holdings.HoldingState.{HoldingState}
use Rattle.protocol.specs.declared.holdings.Holding.{Holding}
use Rattle.protocol.specs.History.{History, history_one, history, history_of, blank}
use Rattle.protocol.specs.HistoryLaws.{imaged_at, remains, starts, left}
use Rattle.protocol.specs.Holdings.{locked, turn, turn_state}
use Rattle.protocol.specs.Past.{Event}

-- ---- lists of lists
module _ {A B : Type 0} where
  each_same : (f g : A → List B) → ((x : A) → f x ≡ g x) → (xs : List A) → flat_map f xs ≡ flat_map g xs
  each_same f g h [] = refl
  each_same f g h (x ∷ xs) = ap₂ ◌++◌ (h x) (each_same f g h xs)

  each_map : (f : A → List B) (g : A → A) (xs : List A) → flat_map f (map g xs) ≡ flat_map (λ x. f (g x)) xs
  each_map f g [] = refl
  each_map f g (x ∷ xs) = ap (λ zs. f (g x) ++ zs) (each_map f g xs)

  flat_map_filter : (f : A → List B) (t : A → Bool) (xs : List A) → flat_map f (filter t xs) ≡ flat_map (λ x. cond (t x) (f x) []) xs
  flat_map_filter f t [] = refl
  flat_map_filter f t (x ∷ xs) = grind (arith, flat_map_filter f t xs)

-- ---- what one accepted call leaves of a holding
twice : (a b : Bool) (s : HoldingState) → turn_state b (turn_state a s) ≡ turn_state (a || b) s
twice a b s = grind arith

abbrev pub event : Call → Event
event c = record { call = c; answer = None }

-- of the holdings that an end of job p leaves
carried_end : (p : ℕ) (es : List Event) (hs : List Holding) → flat_map (remains es) (filter (λ g. not (eqb g.job p)) hs) ≡ flat_map (remains (event (Commit p) ∷ es)) hs ++ []
carried_end p es hs = flat_map_filter (remains es) (λ g. not (eqb g.job p)) hs ∙ each_same _ (remains (event (Commit p) ∷ es)) (λ g. grind arith) hs ∙ sym (append-nil _)

-- with the holdings of a history, and the calls that follow one more accepted call
carried : (h : History) (c : Call) (es : List Event) → flat_map (remains es) (history_one h c).holdings ≡ flat_map (remains (event c ∷ es)) h.holdings ++ flat_map (remains es) (starts c)
carried h (Begin p k a) es = sym (append-nil _)
carried h (Lock p o mode) es = flat_map-append (remains es) h.holdings (locked p o mode ∷ [])
carried h (Image p o) es = each_map (remains es) (turn p o) h.holdings ∙ each_same _ (remains (event (Image p o) ∷ es)) one h.holdings ∙ sym (append-nil _)
  where
    one : (g : Holding) → remains es (turn p o g) ≡ remains (event (Image p o) ∷ es) g
    one g = grind (arith, twice (eqb g.job p && eqb g.object o) (list_any (imaged_at g.job g.object) es) g.state)
carried h (Commit p) es = carried_end p es h.holdings
carried h (Abort p) es = carried_end p es h.holdings

left_of : (h : History) (es : List Event) → (history h es).holdings ≡ flat_map (remains es) h.holdings ++ left es
unfolding history
left_of h [] = sym (append-nil _ ∙ flat_map_single (λ x. x) h.holdings ∙ map-id h.holdings)
left_of h (e ∷ es) = grind (arith, append_assoc, carried h e.call es, left_of (history_one h e.call) es, left_of h es)

pub listed : (es : List Event) → (history_of es).holdings ≡ left es
listed es = left_of blank es
