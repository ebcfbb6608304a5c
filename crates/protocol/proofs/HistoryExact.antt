-- Who holds and who runs at the end of a past.
use Rattle.std.proofs.Common.{◌≡◌, ℕ, ◌+◌, Bool, true, false, cond, ◌||◌, eqb, ◌⊎◌, ◌↔◌, List, [], ◌∷◌, ◌++◌, Some, None, Option, sym, refl, ap, ◌∙◌, subst, inl, inr, arith}
use Rattle.std.specs.Prelude.{flat_map}
use Rattle.std.specs.List.{list_any}
use Rattle.std.proofs.lemmas.Bool.{false≢true, eqb-true, eq-eqb}
use Rattle.terms.specs.declared.calls.Call.{Call}
use Rattle.terms.specs.declared.calls.Call.TheVariants.{Begin, Lock, Image, Commit, Abort}
use Rattle.protocol.specs.declared.holdings.Holding.{Holding}
use Rattle.protocol.specs.declared.refusals.Refusal.{Refusal}
use Rattle.protocol.specs.History.{History, history_one, history, history_of, blank}
use Rattle.protocol.specs.HistoryLaws.{accepted, begun_at, imaged_at, ended_at, begins_in, Held, Running, remains, starts, left}
use Rattle.protocol.specs.Holdings.{locked, turn_state}
use Rattle.protocol.specs.Lists.{In}
use Rattle.protocol.specs.Past.{Event}
use Rattle.protocol.proofs.HistoryReads.{event, listed}
use Rattle.protocol.proofs.Lists.{append_left, append_right, append_cases}

-- ---- holdings
abbrev became : List Event → Holding → Holding
became es g = record { job = g.job; object = g.object; state = turn_state (list_any (imaged_at g.job g.object) es) g.state }

held_later : (e : Event) (es : List Event) (h : Holding) → Held es h → Held (e ∷ es) h
held_later e es h w = record { before = e ∷ w.before; since = w.since; mode = w.mode; lock = ap (λ xs. e ∷ xs) w.lock; runs = w.runs; state = w.state }

-- what the lock of an event leaves
held_now : (a : Option Refusal) (c : Call) (es : List Event) (h : Holding) → In h (flat_map (remains es) (cond (accepted a) (starts c) [])) → Held (record { call = c; answer = a } ∷ es) h
held_now (Some x) c es h i = absurd i
held_now None (Lock p o mode) es h i =
    let r : (list_any (ended_at p) es ≡ false) × (became es (locked p o mode) ≡ h) = grind (arith, i) in
    subst (Held (event (Lock p o mode) ∷ es)) r.1 (record { before = []; since = es; mode = mode; lock = refl; runs = r.0; state = refl })
held_now None (Begin p k a) es h i = absurd i
held_now None (Image p o) es h i = absurd i
held_now None (Commit p) es h i = absurd i
held_now None (Abort p) es h i = absurd i

left_held : (es : List Event) (h : Holding) → In h (left es) → Held es h
left_held [] h i = absurd i
left_held (e ∷ es) h i = elim (append_cases (flat_map (remains es) (cond (accepted e.answer) (starts e.call) [])) (left es) h i) [
  | inl j ↦ held_now e.answer e.call es h j
  | inr j ↦ held_later e es h (left_held es h j)
]

held_left : (es : List Event) (h : Holding) → Held es h → In h (left es)
held_left es h w = subst (λ xs. In h (left xs)) (sym w.lock) (go w.before)
  where
    go : (xs : List Event) → In h (left (xs ++ event (Lock h.job h.object w.mode) ∷ w.since))
    go [] = append_left _ (left w.since) h (append_left (remains w.since (locked h.job h.object w.mode)) [] h (grind (arith, w.runs, w.state)))
    go (x ∷ xs) = append_right (flat_map (remains (xs ++ event (Lock h.job h.object w.mode) ∷ w.since)) (cond (accepted x.answer) (starts x.call) [])) _ h (go xs)

pub holdings_told : (es : List Event) (h : Holding) → In h (history_of es).holdings ↔ Held es h
holdings_told es h = (λ i. left_held es h (subst (In h) (listed es) i), λ w. subst (In h) (sym (listed es)) (held_left es h w))

-- ---- running jobs
running_later : (e : Event) (es : List Event) (p : ℕ) → Running es p → Running (e ∷ es) p
running_later e es p w = record { before = e ∷ w.before; since = w.since; kind = w.kind; argument = w.argument; begin = ap (λ xs. e ∷ xs) w.begin; last = w.last; runs = w.runs }

-- a job ran before, and nothing was begun or ended there since
abbrev RunsOn : History → List Event → ℕ → Type 0
RunsOn h es p = (h.runs p ≡ true) × (list_any (begun_at p) es ≡ false) × (list_any (ended_at p) es ≡ false)

runs_why : (h : History) (es : List Event) (p : ℕ) → (history h es).runs p ≡ true → Running es p ⊎ RunsOn h es p
unfolding history
runs_why h [] p e = inr (e, refl, refl)
runs_why h (e ∷ es) p run = go e.answer e.call run (λ g. runs_why g es p)
  where
    begun : (q k a : ℕ) (b : Bool) → eqb p q ≡ b → Running es p ⊎ ((cond b true (h.runs p) ≡ true) × (list_any (begun_at p) es ≡ false) × (list_any (ended_at p) es ≡ false))
        → Running (event (Begin q k a) ∷ es) p ⊎ ((h.runs p ≡ true) × ((b || list_any (begun_at p) es) ≡ false) × (list_any (ended_at p) es ≡ false))
    begun q k a b e (inl w) = inl (running_later _ es p w)
    begun q k a true e (inr w) = inl (record { before = []; since = es; kind = k; argument = a; begin = ap (λ x. event (Begin x k a) ∷ es) (sym (eqb-true p q e)); last = w.1; runs = w.2 })
    begun q k a false e (inr w) = inr w

    ended : (c : Call) (b : Bool) → Running es p ⊎ ((cond b false (h.runs p) ≡ true) × (list_any (begun_at p) es ≡ false) × (list_any (ended_at p) es ≡ false))
        → Running (event c ∷ es) p ⊎ ((h.runs p ≡ true) × (list_any (begun_at p) es ≡ false) × ((b || list_any (ended_at p) es) ≡ false))
    ended c b (inl w) = inl (running_later _ es p w)
    ended c true (inr w) = absurd (false≢true w.0)
    ended c false (inr w) = inr w

    same : (x : Event) → Running es p ⊎ RunsOn h es p → Running (x ∷ es) p ⊎ RunsOn h es p
    same x (inl w) = inl (running_later x es p w)
    same x (inr w) = inr w

    go : (a : Option Refusal) (c : Call) → (elim a as (λ _. History) [ None ↦ history (history_one h c) es | Some x ↦ history h es ]).runs p ≡ true
        → ((g : History) → (history g es).runs p ≡ true → Running es p ⊎ RunsOn g es p) → Running (record { call = c; answer = a } ∷ es) p ⊎ RunsOn h (record { call = c; answer = a } ∷ es) p
    go (Some x) c run rec = same _ (rec h run)
    go None (Begin q k a) run rec = begun q k a (eqb p q) refl (rec (history_one h (Begin q k a)) run)
    go None (Lock q o mode) run rec = same _ (rec (history_one h (Lock q o mode)) run)
    go None (Image q o) run rec = same _ (rec (history_one h (Image q o)) run)
    go None (Commit q) run rec = ended (Commit q) (eqb p q) (rec (history_one h (Commit q)) run)
    go None (Abort q) run rec = ended (Abort q) (eqb p q) (rec (history_one h (Abort q)) run)

history_append : (h : History) (xs ys : List Event) → history h (xs ++ ys) ≡ history (history h xs) ys
unfolding history
history_append h [] ys = refl
history_append h (x ∷ xs) ys = grind (arith, history_append (history_one h x.call) xs ys, history_append h xs ys)

-- a job runs on where none is ended, and has its number where none is begun
runs_on : (h : History) (es : List Event) (p : ℕ) → list_any (ended_at p) es ≡ false → h.runs p ≡ true → (history h es).runs p ≡ true
unfolding history
runs_on h [] p n e = e
runs_on h (x ∷ es) p n e = grind (arith, n, e, runs_on (history_one h x.call) es p, runs_on h es p)

same_number : (h : History) (es : List Event) (p : ℕ) → list_any (begun_at p) es ≡ false → (history h es).ids p ≡ h.ids p
unfolding history
same_number h [] p n = refl
same_number h (x ∷ es) p n = grind (arith, n, same_number (history_one h x.call) es p, same_number h es p)

begun_count : (h : History) (es : List Event) → (history h es).begun ≡ h.begun + begins_in es
unfolding history
begun_count h [] = omega arith
begun_count h (x ∷ es) = grind (arith, begun_count (history_one h x.call) es, begun_count h es)

-- the history right behind the begin
abbrev at_begin : (es : List Event) (p : ℕ) → Running es p → History
at_begin es p w = history_one (history blank w.before) (Begin p w.kind w.argument)

from_begin : (es : List Event) (p : ℕ) (w : Running es p) → history_of es ≡ history (at_begin es p w) w.since
unfolding history
from_begin es p w = ap (history blank) w.begin ∙ history_append blank w.before _

pub running_told : (es : List Event) (p : ℕ) → ((history_of es).runs p ≡ true) ↔ Running es p
running_told es p = (
  λ run. elim (runs_why blank es p run) [ inl w ↦ w | inr w ↦ absurd (false≢true w.0) ],
  λ w. ap (λ h. h.runs p) (from_begin es p w) ∙ runs_on (at_begin es p w) w.since p w.runs (ap (λ b. cond b true ((history blank w.before).runs p)) (eq-eqb p p refl)),
)

pub number_told : (es : List Event) (p : ℕ) (w : Running es p) → (history_of es).ids p ≡ begins_in w.before
number_told es p w =
    ap (λ h. h.ids p) (from_begin es p w) ∙ same_number (at_begin es p w) w.since p w.last
    ∙ ap (λ b. cond b (history blank w.before).begun ((history blank w.before).ids p)) (eq-eqb p p refl) ∙ begun_count blank w.before ∙ omega arith
