-- What an event changes of the pipes, as they are kept: those at one place.
use Rattle.std.proofs.Common.{◌≡◌, ◌≢◌, ℕ, zero, suc, ◌<◌, List, [], ◌∷◌, length, set, Bool, true, false, ◌&&◌, Option, Some, None, refl, sym, ap, ◌∙◌, subst, ⊎_elim, bytes_eq}
use Rattle.std.specs.Prelude.{◌==◌, if◌then◌else◌}
use Rattle.std.specs.List.{slice_get}
use Rattle.std.proofs.lemmas.Bool.Decides.{eqb_tells}
use Rattle.std.proofs.lemmas.List.{length-set}
use Rattle.call_fs.specs.Maps.{put_at}
use Rattle.call_fs.specs.declared.program.Port.{Port}
use Rattle.call_fs.specs.declared.program.Port.TheVariants as port
use Rattle.call_fs.proofs.Maps.{put_at_same, put_at_other}
use Rattle.world_pipes.specs.declared.mouths.Mouths.{Mouths}
use Rattle.world_pipes.specs.Mouths.{pipe_of, tenant_of, change_at}
use Rattle.world_pipes.specs.Pipework.{Pipe, Pipework, Slot, Tenant, fresh, mouth, put_pipe, put_program, is_port, is_member, with_child}
use Rattle.world_pipes.specs.Pipework.Tenant.{Runs}
use Rattle.world_pipes.specs.Wired.{pipe_in, tenant_in, kept_at, slot_in, IsOwnPort, AreWired}
use Rattle.world_pipes.proofs.Members.{text_cases, other_text, other_than}

-- what stands at a place after one item was changed
pub same_place : {X : Type 0} (xs : List X) (i : ℕ) (x y : X) → slice_get xs i ≡ Some x → slice_get (set xs i y) i ≡ Some y
same_place [] i x y is = absurd cc
same_place (z ∷ zs) zero x y is = refl
same_place (z ∷ zs) (suc i) x y is = same_place zs i x y is

other_place : {X : Type 0} (xs : List X) (i j : ℕ) (y : X) → j ≢ i → slice_get (set xs i y) j ≡ slice_get xs j
other_place [] i j y other = refl
other_place (z ∷ zs) zero zero y other = absurd (other refl)
other_place (z ∷ zs) zero (suc j) y other = refl
other_place (z ∷ zs) (suc i) zero y other = refl
other_place (z ∷ zs) (suc i) (suc j) y other = other_place zs i j y (λ e. other (ap suc e))

-- who runs somewhere after one program was put there, and nowhere else, ran there before, if that one is no actor
pub put_runs : (t : Bool) (o v : Option Tenant) (c : List ℕ) → (v ≡ Some (Runs c) → ⊥) → (if t then v else o) ≡ Some (Runs c) → o ≡ Some (Runs c)
put_runs true o v c none is = absurd (none is)
put_runs false o v c none is = is

-- what is kept of an actor with that place
pub at_wire : (wires : List ℕ → Option ℕ) (mouths : List Mouths) (b : List ℕ) (j : ℕ) (q : Port) → wires b ≡ Some j → pipe_in (kept_at (wires b) mouths) q ≡ pipe_in (slice_get mouths j) q
at_wire wires mouths b j q of = ap (λ (o : Option ℕ). pipe_in (kept_at o mouths) q) of

-- Each actor has its pipes where it had them, with other contents; in the slots runs no actor that didn't.
pub rewired : (wires : List ℕ → Option ℕ) (mouths later : List Mouths) (w v : Pipework) → AreWired wires mouths w → length later ≡ length mouths
    → ((b : List ℕ) (j : ℕ) (q : Port) → wires b ≡ Some j → IsOwnPort j q → v.pipes b q ≡ pipe_in (slice_get later j) q)
    → ((b : List ℕ) (d : ℕ) → v.programs b d ≡ tenant_in (kept_at (wires b) later) d)
    → ((b : List ℕ) → v.slots b ≡ w.slots b)
    → ((b : List ℕ) (d : ℕ) (c : List ℕ) → v.programs b d ≡ Some (Runs c) → w.programs b d ≡ Some (Runs c))
    → AreWired wires later v
rewired wires mouths later w v wired many pipes programs slots ran = record {
  pipes = pipes;
  programs = programs;
  seats = wired.seats;
  members = λ b member. slots b ∙ wired.members b member;
  others = λ b j of other. let own = wired.others b j of other in record { high = own.high; number = own.number; slot = slots b ∙ own.slot };
  within = λ b j of other. subst (λ (n : ℕ). j < n) (sym many) (wired.within b j of other);
  apart = wired.apart;
  owned = λ j low. wired.owned j (subst (λ (n : ℕ). j < n) many low);
  children = λ b d c runs. slots c ∙ wired.children b d c (ran b d c runs);
}

-- the input of who has no pipes that are kept has another content
pub wired_beside : (wires : List ℕ → Option ℕ) (mouths : List Mouths) (w : Pipework) (c : List ℕ) (p : Port) (f : Pipe → Pipe) → AreWired wires mouths w → wires c ≡ None
    → AreWired wires mouths (record { pipes = put_pipe w.pipes (Some (mouth c p)) f; programs = w.programs; slots = w.slots })
wired_beside wires mouths w c p f wired none =
    rewired wires mouths mouths w (record { pipes = put_pipe w.pipes (Some (mouth c p)) f; programs = w.programs; slots = w.slots }) wired refl
    (λ b j q of own. ap (λ (t : Bool). if t && is_port q p then f (w.pipes b q) else w.pipes b q) (other_text b c (apart b j of)) ∙ wired.pipes b j q of own)
    wired.programs (λ b. refl) (λ b d k runs. runs)
  where
    apart : (b : List ℕ) (j : ℕ) → wires b ≡ Some j → b ≢ c
    apart b j of same = let both : ◌≡◌ {A = Option ℕ} None (Some j) = sym none ∙ ap wires (sym same) ∙ of in absurd (cc)

module _ (wires : List ℕ → Option ℕ) (mouths : List Mouths) (a : List ℕ) (i : ℕ) (m n : Mouths) (at : wires a ≡ Some i) (is : slice_get mouths i ≡ Some m) where
  -- what is kept of that actor and of each other one
  here : (b : List ℕ) → b ≡ a → kept_at (wires b) (set mouths i n) ≡ Some n
  here b same = ap (λ (b : List ℕ). kept_at (wires b) (set mouths i n)) same ∙ ap (λ (o : Option ℕ). kept_at o (set mouths i n)) at ∙ same_place mouths i m n is

  was : (b : List ℕ) → b ≡ a → kept_at (wires b) mouths ≡ Some m
  was b same = ap (λ (b : List ℕ). kept_at (wires b) mouths) same ∙ ap (λ (o : Option ℕ). kept_at o mouths) at ∙ is

  there : (w : Pipework) → AreWired wires mouths w → (b : List ℕ) (o : Option ℕ) → wires b ≡ o → b ≢ a → kept_at o (set mouths i n) ≡ kept_at o mouths
  there w wired b None of other = refl
  there w wired b (Some j) of other = other_place mouths i j n (λ same. other (wired.apart b a i (of ∙ ap Some same) at))

  module _ (w : Pipework) (wired : AreWired wires mouths w) where
    -- another content of one pipe of that actor
    pipe_kept : (p : Port) (f : Pipe → Pipe) → ((q : Port) → pipe_of n q ≡ change_at p f (pipe_of m) q) → (b : List ℕ) (q : Port)
        → w.pipes b q ≡ pipe_in (kept_at (wires b) mouths) q → put_pipe w.pipes (Some (mouth a p)) f b q ≡ pipe_in (kept_at (wires b) (set mouths i n)) q
    pipe_kept p f moved b q before = ⊎_elim
        (λ c. ap (λ (t : Bool). if t && is_port q p then f (w.pipes b q) else w.pipes b q) c.1
        ∙ ap (λ (pipe : Pipe). if is_port q p then f pipe else pipe) (before ∙ ap (λ (o : Option Mouths). pipe_in o q) (was b c.0))
        ∙ sym (moved q) ∙ sym (ap (λ (o : Option Mouths). pipe_in o q) (here b c.0)))
        (λ c. ap (λ (t : Bool). if t && is_port q p then f (w.pipes b q) else w.pipes b q) c.1
        ∙ before ∙ sym (ap (λ (o : Option Mouths). pipe_in o q) (there w wired b (wires b) refl c.0)))
        (text_cases b a)

    one_piped : (p : Port) (f : Pipe → Pipe) → ((q : Port) → pipe_of n q ≡ change_at p f (pipe_of m) q) → (b : List ℕ) (j : ℕ) (q : Port) → wires b ≡ Some j → IsOwnPort j q
        → put_pipe w.pipes (Some (mouth a p)) f b q ≡ pipe_in (slice_get (set mouths i n) j) q
    one_piped p f moved b j q of own =
        pipe_kept p f moved b q (wired.pipes b j q of own ∙ sym (at_wire wires mouths b j q of)) ∙ at_wire wires (set mouths i n) b j q of

    -- another program in one slot of that actor
    program_kept : (slot : ℕ) (tenant : Option Tenant) → ((d : ℕ) → tenant_of n d ≡ (if d == slot then tenant else tenant_of m d)) → (b : List ℕ) (d : ℕ)
        → put_program w.programs a slot tenant b d ≡ tenant_in (kept_at (wires b) (set mouths i n)) d
    program_kept slot tenant moved b d = ⊎_elim
        (λ c. ap (λ (t : Bool). if t && (d == slot) then tenant else w.programs b d) c.1
        ∙ ap (λ (old : Option Tenant). if d == slot then tenant else old) (wired.programs b d ∙ ap (λ (o : Option Mouths). tenant_in o d) (was b c.0))
        ∙ sym (moved d) ∙ sym (ap (λ (o : Option Mouths). tenant_in o d) (here b c.0)))
        (λ c. ap (λ (t : Bool). if t && (d == slot) then tenant else w.programs b d) c.1
        ∙ wired.programs b d ∙ sym (ap (λ (o : Option Mouths). tenant_in o d) (there w wired b (wires b) refl c.0)))
        (text_cases b a)

    -- and the programs stay
    programs_kept : ((d : ℕ) → tenant_of n d ≡ tenant_of m d) → (b : List ℕ) (d : ℕ) → w.programs b d ≡ tenant_in (kept_at (wires b) (set mouths i n)) d
    programs_kept same b d = ⊎_elim
        (λ c. wired.programs b d ∙ ap (λ (o : Option Mouths). tenant_in o d) (was b c.0) ∙ sym (same d) ∙ sym (ap (λ (o : Option Mouths). tenant_in o d) (here b c.0)))
        (λ c. wired.programs b d ∙ sym (ap (λ (o : Option Mouths). tenant_in o d) (there w wired b (wires b) refl c.0)))
        (text_cases b a)

    -- and the pipes stay
    pipes_kept : ((q : Port) → pipe_of n q ≡ pipe_of m q) → (b : List ℕ) (j : ℕ) (q : Port) → wires b ≡ Some j → IsOwnPort j q → w.pipes b q ≡ pipe_in (slice_get (set mouths i n) j) q
    pipes_kept same b j q of own =
        let before : w.pipes b q ≡ pipe_in (kept_at (wires b) mouths) q = wired.pipes b j q of own ∙ sym (at_wire wires mouths b j q of) in
        ⊎_elim
        (λ c. before ∙ ap (λ (o : Option Mouths). pipe_in o q) (was b c.0) ∙ sym (same q) ∙ sym (ap (λ (o : Option Mouths). pipe_in o q) (here b c.0)))
        (λ c. before ∙ sym (ap (λ (o : Option Mouths). pipe_in o q) (there w wired b (wires b) refl c.0)))
        (text_cases b a)
        ∙ at_wire wires (set mouths i n) b j q of

    -- nothing is changed
    pub wired_same : ((q : Port) → pipe_of n q ≡ pipe_of m q) → ((d : ℕ) → tenant_of n d ≡ tenant_of m d) → AreWired wires (set mouths i n) w
    wired_same pipes same = rewired wires mouths (set mouths i n) w w wired (length-set mouths i n) (pipes_kept pipes) (programs_kept same) (λ b. refl) (λ b d c runs. runs)

    -- A giving to that actor, a taking of its, or the end of what one gives to it: one of its pipes has another content.
    pub wired_pipe : (p : Port) (f : Pipe → Pipe) → ((q : Port) → pipe_of n q ≡ change_at p f (pipe_of m) q) → ((d : ℕ) → tenant_of n d ≡ tenant_of m d)
        → AreWired wires (set mouths i n) (record { pipes = put_pipe w.pipes (Some (mouth a p)) f; programs = w.programs; slots = w.slots })
    wired_pipe p f moved same =
        rewired wires mouths (set mouths i n) w (record { pipes = put_pipe w.pipes (Some (mouth a p)) f; programs = w.programs; slots = w.slots }) wired (length-set mouths i n)
        (one_piped p f moved) (programs_kept same) (λ b. refl) (λ b d c runs. runs)

    -- the taking of a status frees a slot
    pub wired_program : (slot : ℕ) (tenant : Option Tenant) → ((c : List ℕ) → tenant ≡ Some (Runs c) → ⊥) → ((d : ℕ) → tenant_of n d ≡ (if d == slot then tenant else tenant_of m d))
        → ((q : Port) → pipe_of n q ≡ pipe_of m q)
        → AreWired wires (set mouths i n) (record { pipes = w.pipes; programs = put_program w.programs a slot tenant; slots = w.slots })
    wired_program slot tenant none moved same =
        rewired wires mouths (set mouths i n) w (record { pipes = w.pipes; programs = put_program w.programs a slot tenant; slots = w.slots }) wired (length-set mouths i n)
        (pipes_kept same) (program_kept slot tenant moved) (λ b. refl) (λ b d c runs. put_runs (bytes_eq b a && (d == slot)) (w.programs b d) tenant c (none c) runs)

    -- a remote program starts, or its report comes
    pub wired_both : (p : Port) (f : Pipe → Pipe) (slot : ℕ) (tenant : Option Tenant) → ((c : List ℕ) → tenant ≡ Some (Runs c) → ⊥)
        → ((q : Port) → pipe_of n q ≡ change_at p f (pipe_of m) q) → ((d : ℕ) → tenant_of n d ≡ (if d == slot then tenant else tenant_of m d))
        → AreWired wires (set mouths i n) (record { pipes = put_pipe w.pipes (Some (mouth a p)) f; programs = put_program w.programs a slot tenant; slots = w.slots })
    wired_both p f slot tenant none moved starts =
        rewired wires mouths (set mouths i n) w (record { pipes = put_pipe w.pipes (Some (mouth a p)) f; programs = put_program w.programs a slot tenant; slots = w.slots }) wired
        (length-set mouths i n) (one_piped p f moved) (program_kept slot tenant starts) (λ b. refl)
        (λ b d c runs. put_runs (bytes_eq b a && (d == slot)) (w.programs b d) tenant c (none c) runs)

    -- A child starts in a slot of that actor, which has no pipes that are kept.
    module _ (d : ℕ) (c : List ℕ) (none : w.slots c ≡ None) (unwired : wires c ≡ None) (named : is_member c ≡ false) where
      test_tells : (b : List ℕ) (e : ℕ) → (bytes_eq b a && (e == d)) ≡ true → (b ≡ a) × (e ≡ d)
      test_tells b e both = ⊎_elim
          (λ f. ⊎_elim
          (λ g. (f.0, g.1))
          (λ g. let v : false ≡ true = sym (ap (λ (t : Bool). t && (e == d)) f.1 ∙ g.0) ∙ both in absurd (cc))
          (eqb_tells e d))
          (λ f. let v : false ≡ true = sym (ap (λ (t : Bool). t && (e == d)) f.1) ∙ both in absurd (cc))
          (text_cases b a)

      born_slot : (b : List ℕ) (e : ℕ) (k : List ℕ) (t : Bool) → (bytes_eq b a && (e == d)) ≡ t → (if t then Some (Runs c) else w.programs b e) ≡ Some (Runs k)
          → put_at w.slots c (Some (slot_in a d)) k ≡ Some (slot_in b e)
      born_slot b e k true test runs =
          let same : c ≡ k = cc in
          let tells = test_tells b e test in
          ap (put_at w.slots c (Some (slot_in a d))) (sym same) ∙ put_at_same w.slots c (Some (slot_in a d))
          ∙ sym (ap (λ (b : List ℕ). Some (slot_in b e)) tells.0 ∙ ap (λ (e : ℕ). Some (slot_in a e)) tells.1)
      born_slot b e k false test runs =
          let old = wired.children b e k runs in
          put_at_other w.slots c (Some (slot_in a d)) k (λ same. let both : ◌≡◌ {A = Option Slot} None (Some (slot_in b e)) = sym none ∙ ap w.slots (sym same) ∙ old in absurd (cc)) ∙ old

      pub wired_bears : ((q : Port) → pipe_of n q ≡ change_at (port.Program d) (λ _. fresh) (pipe_of m) q) → ((e : ℕ) → tenant_of n e ≡ (if e == d then Some (Runs c) else tenant_of m e))
          → AreWired wires (set mouths i n) (with_child w a d c)
      wired_bears moved starts = record {
        pipes = one_piped (port.Program d) (λ _. fresh) moved;
        programs = program_kept d (Some (Runs c)) starts;
        seats = wired.seats;
        members = λ b member. put_at_other w.slots c (Some (slot_in a d)) b (λ same. other_than c b named member (sym same)) ∙ wired.members b member;
        others = λ b j of other. let own = wired.others b j of other in record {
          high = own.high;
          number = own.number;
          slot = put_at_other w.slots c (Some (slot_in a d)) b (λ same. let both : ◌≡◌ {A = Option ℕ} None (Some j) = sym unwired ∙ ap wires (sym same) ∙ of in absurd (cc)) ∙ own.slot;
        };
        within = λ b j of other. subst (λ (k : ℕ). j < k) (sym (length-set mouths i n)) (wired.within b j of other);
        apart = wired.apart;
        owned = λ j low. wired.owned j (subst (λ (k : ℕ). j < k) (length-set mouths i n) low);
        children = λ b e k runs. born_slot b e k (bytes_eq b a && (e == d)) refl runs;
      }
