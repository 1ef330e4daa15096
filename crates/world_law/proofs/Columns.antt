-- One column of the ledgers, that of what was delivered or that of the bounces, as the books change.
use Rattle.std.proofs.Common.{◌≡◌, ◌≢◌, ◌⊎◌, inl, inr, ⊎_elim, ℕ, List, [], ◌∷◌, ◌++◌, Bool, true, false, Option, Some, None, option_map, option_to_list}
use Rattle.std.proofs.Common.{refl, sym, ap, ◌∙◌, subst, bytes_eq, if◌then◌else◌}
use Rattle.call_fs.proofs.Maps.{put_cases}
use Rattle.call_fs.specs.Disk.{Among}
use Rattle.call_fs.specs.Maps.{put}
use Rattle.call_fs.specs.declared.calls.Answer.{Answer}
use Rattle.call_fs.specs.declared.calls.Answer.TheVariants.{Done}
use Rattle.call_fs.specs.declared.calls.CallData.{CallData}
use Rattle.call_fs.specs.declared.calls.CallData.TheVariants.{Link}
use Rattle.queue_inject.specs.declared.injection.Arguments.{Arguments}
use Rattle.queue_law.proofs.Looks.{mapped_some}
use Rattle.queue_law.specs.Books.{Books, Injection, accept, begun, booked, entered_in, linked, with_line}
use Rattle.queue_law.specs.Ledgers.{Ledger, Line, line_in, no_ledger}
use Rattle.queue_paths.specs.Names.{Name, parse, path}
use Rattle.queue_paths.specs.Names.Name.{Of}
use Rattle.queue_paths.specs.Names.Part.{Intd, Mess, Todo, SplitIntd, SplitTodo}
use Rattle.world_law.specs.Bounces.{IsKept}

-- Injections of the books

put_some : (living : ℕ → Option Injection) (k n : ℕ) (o : Option Injection) (i : Injection) → put living k o n ≡ Some i → (o ≡ Some i) ⊎ (living n ≡ Some i)
put_some living k n o i is = ⊎_elim
    (λ (c : (n ≡ k) × (put living k o n ≡ o)). inl (sym c.1 ∙ is))
    (λ (c : (n ≢ k) × (put living k o n ≡ living n)). inr (sym c.1 ∙ is))
    (put_cases living k o n)

accepted_ledger : (a : List ℕ) (o : Option Injection) (i : Injection) → accept a o ≡ Some i → (j : Injection) × (o ≡ Some j) × (i.args ≡ j.args) × (i.ledger ≡ j.ledger)
accepted_ledger a None i e = absurd (cc)
accepted_ledger a (Some j) i e = let w = by (bytes_eq j.actor a) e in (j, refl, w.0, w.1)
  where
    by : (t : Bool) → (if t then Some (record j { accepted = true }) else Some j) ≡ Some i → (i.args ≡ j.args) × (i.ledger ≡ j.ledger)
    by true is = let same : i ≡ record j { accepted = true } = cc in (ap (λ (k : Injection). k.args) same, ap (λ (k : Injection). k.ledger) same)
    by false is = let same : i ≡ j = cc in (ap (λ (k : Injection). k.args) same, ap (λ (k : Injection). k.ledger) same)

pub among_option : (o : Option Injection) (i : Injection) → Among i (option_to_list o) → o ≡ Some i
among_option None i h = absurd h
among_option (Some j) i h = ⊎_elim (λ (same : i ≡ j). ap Some (sym same)) (λ (none : ⊥). absurd none) h

pub among_append : (i : Injection) (xs ys : List Injection) → Among i (xs ++ ys) → Among i xs ⊎ Among i ys
among_append i [] ys h = inr h
among_append i (y ∷ xs) ys h = ⊎_elim
    (λ (e : i ≡ y). inl (inl e))
    (λ (w : Among i (xs ++ ys)). ⊎_elim (λ (v : Among i xs). inl (inr v)) (λ (v : Among i ys). inr v) (among_append i xs ys w))
    h

-- the message of that number has these arguments
abbrev pub IsLiving : Books → ℕ → Arguments → Type 0
IsLiving b n of = (i : Injection) × (b.living n ≡ Some i) × (i.args ≡ of)

module _ {X : Type 0} (column : Ledger → List X) where
  -- it stands in the ledger of some message with these arguments
  abbrev pub Has : Books → Arguments → X → Type 0
  Has b of x = (i : Injection) × IsKept b i × (i.args ≡ of) × Among x (column i.ledger)

  -- A call of an injector: a ledger begins with nothing

  module _ (empty : (x : X) → Among x (column no_ledger) → ⊥) where
    begun_none : (a : List ℕ) (args : Arguments) (n : ℕ) (i : Injection) (x : X) → ◌≡◌ {A = Option Injection} (Some (begun a args n)) (Some i) → Among x (column i.ledger) → ⊥
    begun_none a args n i x e h = let same : i ≡ begun a args n = cc in empty x (subst (λ (j : Injection). Among x (column j.ledger)) same h)

    module _ (b : Books) (a : List ℕ) (args of : Arguments) where
      begun_has : (n : ℕ) (x : X) → Has (record { living = put b.living n (Some (begun a args n)); over = option_to_list (b.living n) ++ b.over }) of x → Has b of x
      begun_has n x h = ⊎_elim
          (λ (w : (k : ℕ) × (put b.living n (Some (begun a args n)) k ≡ Some h.0)). ⊎_elim
          (λ (new : Some (begun a args n) ≡ Some h.0). absurd (begun_none a args n h.0 x new h.3))
          (λ (old : b.living w.0 ≡ Some h.0). (h.0, inl (w.0, old), h.2, h.3))
          (put_some b.living n w.0 (Some (begun a args n)) h.0 w.1))
          (λ (w : Among h.0 (option_to_list (b.living n) ++ b.over)). ⊎_elim
          (λ (v : Among h.0 (option_to_list (b.living n))). (h.0, inl (n, among_option (b.living n) h.0 v), h.2, h.3))
          (λ (v : Among h.0 b.over). (h.0, inr v, h.2, h.3))
          (among_append h.0 (option_to_list (b.living n)) b.over w))
          h.1

      accepted_has : (n : ℕ) (x : X) → Has (record { living = put b.living n (accept a (b.living n)); over = b.over }) of x → Has b of x
      accepted_has n x h = ⊎_elim
          (λ (w : (k : ℕ) × (put b.living n (accept a (b.living n)) k ≡ Some h.0)). ⊎_elim
          (λ (new : accept a (b.living n) ≡ Some h.0).
          let j = accepted_ledger a (b.living n) h.0 new in (j.0, inl (n, j.1), sym j.2 ∙ h.2, subst (λ (l : Ledger). Among x (column l)) j.3 h.3))
          (λ (old : b.living w.0 ≡ Some h.0). (h.0, inl (w.0, old), h.2, h.3))
          (put_some b.living n w.0 (accept a (b.living n)) h.0 w.1))
          (λ (w : Among h.0 b.over). (h.0, inr w, h.2, h.3))
          h.1

      if_has : (t : Bool) (c : Books) (x : X) → (Has c of x → Has b of x) → Has (if t then c else b) of x → Has b of x
      if_has true c x back h = back h
      if_has false c x back h = h

      linked_has : (old : List ℕ) (name : Option Name) (x : X) → Has (linked b a args old name) of x → Has b of x
      linked_has old (Some (Of Mess n)) x h = begun_has n x h
      linked_has old (Some (Of Todo n)) x h =
          if_has (bytes_eq old (path (Of Intd n))) (record { living = put b.living n (accept a (b.living n)); over = b.over }) x (accepted_has n x) h
      linked_has old (Some (Of SplitTodo n)) x h =
          if_has (bytes_eq old (path (Of SplitIntd n))) (record { living = put b.living n (accept a (b.living n)); over = b.over }) x (accepted_has n x) h
      linked_has old name x h = h

      pub call_has : (call : CallData) (told : Answer) (x : X) → Has (booked b a args call told) of x → Has b of x
      call_has (Link old new) Done x h = linked_has old (parse new) x h
      call_has call told x h = h

  -- What a sender enters: by some lines

  module _ (IsOf : Line → X → Type 0) (adds : (line : Line) (l : Ledger) (x : X) → Among x (column (line_in line l)) → Among x (column l) ⊎ IsOf line x) where
    pub entered_has : (b : Books) (n : ℕ) (line : Line) (of : Arguments) (x : X) → Has (entered_in b n line) of x → Has b of x ⊎ (IsOf line x × IsLiving b n of)
    entered_has b n line of x h = ⊎_elim
        (λ (w : (k : ℕ) × (put b.living n (option_map (with_line line) (b.living n)) k ≡ Some h.0)). ⊎_elim
        (λ (new : option_map (with_line line) (b.living n) ≡ Some h.0).
        let j = mapped_some (with_line line) (b.living n) h.0 new in
        let args : j.0.args ≡ of = ap (λ (i : Injection). i.args) j.2 ∙ h.2 in
        ⊎_elim
        (λ (old : Among x (column j.0.ledger)). inl (j.0, inl (n, j.1), args, old))
        (λ (it : IsOf line x). inr (it, (j.0, j.1, args)))
        (adds line j.0.ledger x (subst (λ (i : Injection). Among x (column i.ledger)) (sym j.2) h.3)))
        (λ (old : b.living w.0 ≡ Some h.0). inl (h.0, inl (w.0, old), h.2, h.3))
        (put_some b.living n w.0 (option_map (with_line line) (b.living n)) h.0 w.1))
        (λ (w : Among h.0 b.over). inl (h.0, inr w, h.2, h.3))
        h.1

    -- the others leave it
    pub not_entered : (b : Books) (n : ℕ) (line : Line) (of : Arguments) (x : X) → (IsOf line x → ⊥) → Has (entered_in b n line) of x → Has b of x
    not_entered b n line of x none h =
        ⊎_elim (λ (old : Has b of x). old) (λ (it : IsOf line x × IsLiving b n of). absurd (none it.0)) (entered_has b n line of x h)
