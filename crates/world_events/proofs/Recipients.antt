-- The recipients of an envelope, counted as its bytes are read.
use Rattle.std.proofs.Common.{◌≡◌, ◌⊎◌, ℕ, ◌+◌, ◌<◌, ◌≤◌, List, [], ◌∷◌, ◌++◌, length, get_or, take, drop, min, Bool, true, false, refl, sym, ap, ◌∙◌, subst, ⊎_elim, eqb, ltb}
use Rattle.std.specs.Prelude.{if◌then◌else◌}
use Rattle.std.proofs.lemmas.List.{take_more, take_all, take-append-drop, take_min, length_push}
use Rattle.queue_inject.specs.declared.injection.Arguments.{Arguments}
use Rattle.envelope_records.specs.declared.envelope.EnvFault.{EnvFault}
use Rattle.envelope_records.specs.declared.envelope.EnvFault.TheVariants.{TooLong, Format}
use Rattle.envelope_records.specs.declared.envelope.EnvStep.{EnvStep}
use Rattle.envelope_records.specs.declared.envelope.EnvStep.TheVariants.{More, Sender, Recipient, End, Fault}
use Rattle.envelope_records.specs.Envelope.{Stage, Step, Reading, step, in_address, read_on, read_more, read_envelope, step_of}
use Rattle.envelope_records.specs.Envelope.Stage.{Begin, InSender, Between, InRecipient}
use Rattle.envelope_records.specs.Envelope.Step.{Goes, Ends, Fails}
use Rattle.envelope_records.specs.Envelope.Reading.{Whole, Open, Broken}
use Rattle.queue_inject.specs.Texts.{limit, recipients_read, recipients_of}
use Rattle.envelope_records.proofs.Envelopes.{read_envelope-append}

-- the recipients that have ended so far
abbrev pub so_far : Stage → List (List ℕ)
so_far Begin = []
so_far (InSender begun) = []
so_far (Between sender recipients) = recipients
so_far (InRecipient sender recipients begun) = recipients

-- so many, of an envelope that has not ended
abbrev pub Counted : Reading → ℕ → Type 0
Counted (Whole sender recipients) n = ⊥
Counted (Open stage) n = n ≡ length (so_far stage)
Counted (Broken before fault) n = Unit {0}

-- the count goes on as a byte's step says
abbrev pub Turn : EnvStep → Reading → ℕ → Type 0
Turn More r n = Counted r n
Turn Sender r n = Counted r n
Turn Recipient r n = Counted r (n + 1)
Turn End r n = n ≡ length (recipients_read r)
Turn (Fault fault) r n = Counted r n

-- what a step leads to
abbrev Leads : Stage → ℕ → Step → Type 0
Leads stage n s = Turn (step_of (read_on stage s (λ next. Open next))) (read_on stage s (λ next. Open next)) n

either : {A : Type 0} (P : A → Type 0) (t : Bool) (x y : A) → P x → P y → P (if t then x else y)
either P true x y h g = h
either P false x y h g = g

fails : (stage : Stage) (n : ℕ) (fault : EnvFault) → Leads stage n (Fails fault)
fails stage n fault = tt

leads_in_address : (stage : Stage) (n : ℕ) (begun : List ℕ) (b : ℕ) (ended more : Stage) → Leads stage n (Goes ended) → Leads stage n (Goes more)
    → Leads stage n (in_address begun b ended more)
leads_in_address stage n begun b ended more at_end goes =
    either (Leads stage n) (eqb b 0) (Goes ended) (if ltb (length begun) 1002 then Goes more else Fails TooLong) at_end
    (either (Leads stage n) (ltb (length begun) 1002) (Goes more) (Fails TooLong) goes (fails stage n TooLong))

one_more : (stage : Stage) (n : ℕ) (sender : List ℕ) (recipients : List (List ℕ)) (last : List ℕ) → n ≡ length recipients
    → Leads stage n (Goes (Between sender (recipients ++ last ∷ [])))
one_more stage n sender [] last h = ap (λ k. k + 1) h
one_more stage n sender (recipient ∷ recipients) last h = ap (λ k. k + 1) h ∙ sym (length_push (recipient ∷ recipients) last)

leads : (stage : Stage) (b n : ℕ) → n ≡ length (so_far stage) → Leads stage n (step stage b)
leads Begin b n h = either (Leads Begin n) (eqb b 70) (Goes (InSender [])) (Fails Format) h (fails Begin n Format)
leads (InSender begun) b n h = leads_in_address (InSender begun) n begun b (Between begun []) (InSender (begun ++ b ∷ [])) h h
leads (Between sender recipients) b n h =
    let stage = Between sender recipients in
    either (Leads stage n) (eqb b 0) (Ends sender recipients) (if eqb b 84 then Goes (InRecipient sender recipients []) else Fails Format) h
    (either (Leads stage n) (eqb b 84) (Goes (InRecipient sender recipients [])) (Fails Format) h (fails stage n Format))
leads (InRecipient sender recipients begun) b n h =
    leads_in_address (InRecipient sender recipients begun) n begun b (Between sender (recipients ++ begun ∷ [])) (InRecipient sender recipients (begun ++ b ∷ []))
    (one_more (InRecipient sender recipients begun) n sender recipients begun h) h

turns : (r : Reading) (b n : ℕ) → Counted r n → Turn (step_of (read_more r (b ∷ []))) (read_more r (b ∷ [])) n
turns (Whole sender recipients) b n h = absurd h
turns (Open stage) b n h = leads stage b n h
turns (Broken before fault) b n h = tt

-- one byte more
pub counted_more : (bytes : List ℕ) (i n : ℕ) (did : EnvStep) → i < length bytes → Counted (read_envelope (take i bytes)) n
    → did ≡ step_of (read_envelope (take i bytes ++ get_or bytes i 0 ∷ [])) → Turn did (read_envelope (take (i + 1) bytes)) n
counted_more bytes i n did inside h is =
    let b : ℕ = get_or bytes i 0 in
    let more : read_envelope (take i bytes ++ b ∷ []) ≡ read_more (read_envelope (take i bytes)) (b ∷ []) = read_envelope-append (take i bytes) (b ∷ []) in
    subst (λ l. Turn did (read_envelope l) n) (sym (take_more bytes i 0 inside))
    (subst (λ s. Turn s (read_envelope (take i bytes ++ b ∷ [])) n) (sym is)
    (subst (λ r. Turn (step_of r) r n) (sym more) (turns (read_envelope (take i bytes)) b n h)))

-- an envelope that has ended stays as it is
ended : (r : Reading) (more : List ℕ) → step_of r ≡ End → read_more r more ≡ r
ended (Whole sender recipients) more h = refl
ended (Open Begin) more h = absurd cc
ended (Open (InSender begun)) more h = absurd cc
ended (Open (Between sender [])) more h = absurd cc
ended (Open (Between sender (recipient ∷ recipients))) more h = absurd cc
ended (Open (InRecipient sender recipients begun)) more h = absurd cc
ended (Broken before fault) more h = absurd cc

pub counted_whole : (bytes : List ℕ) (i n : ℕ) (did : EnvStep) → i < length bytes → Counted (read_envelope (take i bytes)) n
    → did ≡ step_of (read_envelope (take i bytes ++ get_or bytes i 0 ∷ [])) → did ≡ End → n ≡ length (recipients_read (read_envelope bytes))
counted_whole bytes i n did inside h is end =
    let turn : Turn End (read_envelope (take (i + 1) bytes)) n = subst (λ s. Turn s (read_envelope (take (i + 1) bytes)) n) end (counted_more bytes i n did inside h is) in
    let stops : step_of (read_envelope (take (i + 1) bytes)) ≡ End = ap (λ l. step_of (read_envelope l)) (take_more bytes i 0 inside) ∙ sym is ∙ end in
    let whole : read_envelope bytes ≡ read_envelope (take (i + 1) bytes) =
    ap read_envelope (sym (take-append-drop (i + 1) bytes)) ∙ read_envelope-append (take (i + 1) bytes) (drop (i + 1) bytes)
    ∙ ended (read_envelope (take (i + 1) bytes)) (drop (i + 1) bytes) stops in
    turn ∙ ap (λ r. length (recipients_read r)) (sym whole)

-- an envelope that has not ended has none
none_read : (r : Reading) (n : ℕ) → Counted r n → 0 ≡ length (recipients_read r)
none_read (Whole sender recipients) n h = absurd h
none_read (Open stage) n h = refl
none_read (Broken before fault) n h = refl

pub counted_none : (bytes : List ℕ) (i n : ℕ) → length bytes ≤ i → Counted (read_envelope (take i bytes)) n → 0 ≡ length (recipients_read (read_envelope bytes))
counted_none bytes i n past h = none_read (read_envelope (take i bytes)) n h ∙ ap (λ l. length (recipients_read (read_envelope l))) (take_all i bytes past)

pub counted_start : Counted (read_envelope []) 0
unfolding read_envelope
counted_start = refl

pub turn_other : (did : EnvStep) (r : Reading) (n : ℕ) → (did ≡ More) ⊎ ((did ≡ Sender) ⊎ ((fault : EnvFault) × (did ≡ Fault fault))) → Turn did r n → Counted r n
turn_other did r n h turn =
    ⊎_elim (λ e. subst (λ s. Turn s r n) e turn) (λ w. ⊎_elim (λ e. subst (λ s. Turn s r n) e turn) (λ e. subst (λ s. Turn s r n) e.1 turn) w) h

-- of the bytes within the limit
pub recipients_within : (args : Arguments) (bytes : List ℕ) (n k : ℕ) → bytes ≡ take k args.envelope → k ≡ min limit (length args.envelope)
    → n ≡ length (recipients_read (read_envelope bytes)) → n ≡ length (recipients_of args)
unfolding recipients_of
recipients_within args bytes n k is within h =
    h ∙ ap (λ l. length (recipients_read (read_envelope l))) (is ∙ ap (λ k. take k args.envelope) within ∙ take_min limit args.envelope)
