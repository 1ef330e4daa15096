-- What holds of the recipients of an envelope, as its bytes are read.
use Rattle.std.proofs.Common.{◌≡◌, ◌⊎◌, ℕ, ◌+◌, ◌<◌, ◌≤◌, List, [], ◌∷◌, ◌++◌, length, get_or, take, drop, min, Bool, true, false, refl, sym, ap, ◌∙◌, subst, ⊎_elim, eqb, ltb}
use Rattle.std.specs.Prelude.{if◌then◌else◌}
use Rattle.std.proofs.lemmas.List.{take_more, take_all, take-append-drop, take_min}
use Rattle.mail_bytes.specs.Lists.{last_of}
use Rattle.envelope_records.specs.declared.envelope.EnvFault.{EnvFault}
use Rattle.envelope_records.specs.declared.envelope.EnvFault.TheVariants.{TooLong, Format}
use Rattle.envelope_records.specs.declared.envelope.EnvStep.{EnvStep}
use Rattle.envelope_records.specs.declared.envelope.EnvStep.TheVariants.{More, Sender, Recipient, End, Fault}
use Rattle.envelope_records.specs.Envelope.{Stage, Step, Reading, step, in_address, read_on, read_more, read_envelope, step_of, reader_of, ended_address}
use Rattle.envelope_records.specs.Envelope.Stage.{Begin, InSender, Between, InRecipient}
use Rattle.envelope_records.specs.Envelope.Step.{Goes, Ends, Fails}
use Rattle.envelope_records.specs.Envelope.Reading.{Whole, Open, Broken}
use Rattle.queue_inject.specs.Texts.{limit, recipients_read}
use Rattle.script_disks.specs.Routes.{recipients_in}
use Rattle.envelope_records.proofs.Envelopes.{read_envelope-append}

-- the recipients that have ended so far
abbrev pub so_far : Stage → List (List ℕ)
so_far Begin = []
so_far (InSender begun) = []
so_far (Between sender recipients) = recipients
so_far (InRecipient sender recipients begun) = recipients

last_push : (first : List ℕ) (others : List (List ℕ)) (last : List ℕ) → last_of first (others ++ last ∷ []) ≡ last
last_push first [] last = refl
last_push first (other ∷ others) last = last_push other others last

module _ (P : List (List ℕ) → Type 0) where
  -- it holds of the recipients so far, of an envelope that has not ended
  abbrev pub Holds : Reading → Type 0
  Holds (Whole sender recipients) = ⊥
  Holds (Open stage) = P (so_far stage)
  Holds (Broken before fault) = Unit {0}

  -- it held of all but the last of them, which has just ended
  abbrev pub HeldBefore : Reading → Type 0
  HeldBefore (Whole sender recipients) = ⊥
  HeldBefore (Open stage) = (recipients : List (List ℕ)) × P recipients × (so_far stage ≡ recipients ++ ended_address (reader_of (Open stage)) ∷ [])
  HeldBefore (Broken before fault) = ⊥

  -- what a byte's step leaves of it
  abbrev pub Turn : EnvStep → Reading → Type 0
  Turn More r = Holds r
  Turn Sender r = Holds r
  Turn Recipient r = HeldBefore r
  Turn End r = P (recipients_read r)
  Turn (Fault fault) r = Holds r

  -- what a step leads to
  abbrev Leads : Stage → Step → Type 0
  Leads stage s = Turn (step_of (read_on stage s (λ next. Open next))) (read_on stage s (λ next. Open next))

  either : (stage : Stage) (t : Bool) (x y : Step) → Leads stage x → Leads stage y → Leads stage (if t then x else y)
  either stage true x y h g = h
  either stage false x y h g = g

  fails : (stage : Stage) (fault : EnvFault) → Leads stage (Fails fault)
  fails stage fault = tt

  leads_in_address : (stage : Stage) (begun : List ℕ) (b : ℕ) (ended more : Stage) → Leads stage (Goes ended) → Leads stage (Goes more)
      → Leads stage (in_address begun b ended more)
  leads_in_address stage begun b ended more at_end goes =
      either stage (eqb b 0) (Goes ended) (if ltb (length begun) 1002 then Goes more else Fails TooLong) at_end
      (either stage (ltb (length begun) 1002) (Goes more) (Fails TooLong) goes (fails stage TooLong))

  one_more : (stage : Stage) (sender : List ℕ) (recipients : List (List ℕ)) (last : List ℕ) → P recipients
      → Leads stage (Goes (Between sender (recipients ++ last ∷ [])))
  one_more stage sender [] last h = ([], h, refl)
  one_more stage sender (recipient ∷ recipients) last h =
      (recipient ∷ recipients, h, ap (λ (l : List ℕ). (recipient ∷ recipients) ++ l ∷ []) (sym (last_push recipient recipients last)))

  leads : (stage : Stage) (b : ℕ) → P (so_far stage) → Leads stage (step stage b)
  leads Begin b h = either Begin (eqb b 70) (Goes (InSender [])) (Fails Format) h (fails Begin Format)
  leads (InSender begun) b h = leads_in_address (InSender begun) begun b (Between begun []) (InSender (begun ++ b ∷ [])) h h
  leads (Between sender recipients) b h =
      let stage = Between sender recipients in
      either stage (eqb b 0) (Ends sender recipients) (if eqb b 84 then Goes (InRecipient sender recipients []) else Fails Format) h
      (either stage (eqb b 84) (Goes (InRecipient sender recipients [])) (Fails Format) h (fails stage Format))
  leads (InRecipient sender recipients begun) b h =
      leads_in_address (InRecipient sender recipients begun) begun b (Between sender (recipients ++ begun ∷ [])) (InRecipient sender recipients (begun ++ b ∷ []))
      (one_more (InRecipient sender recipients begun) sender recipients begun h) h

  turns : (r : Reading) (b : ℕ) → Holds r → Turn (step_of (read_more r (b ∷ []))) (read_more r (b ∷ []))
  turns (Whole sender recipients) b h = absurd h
  turns (Open stage) b h = leads stage b h
  turns (Broken before fault) b h = tt

  -- one byte more
  pub turned : (bytes : List ℕ) (i : ℕ) (did : EnvStep) → i < length bytes → Holds (read_envelope (take i bytes))
      → did ≡ step_of (read_envelope (take i bytes ++ get_or bytes i 0 ∷ [])) → Turn did (read_envelope (take (i + 1) bytes))
  turned bytes i did inside h is =
      let b : ℕ = get_or bytes i 0 in
      let more : read_envelope (take i bytes ++ b ∷ []) ≡ read_more (read_envelope (take i bytes)) (b ∷ []) = read_envelope-append (take i bytes) (b ∷ []) in
      subst (λ l. Turn did (read_envelope l)) (sym (take_more bytes i 0 inside))
      (subst (λ s. Turn s (read_envelope (take i bytes ++ b ∷ []))) (sym is)
      (subst (λ r. Turn (step_of r) r) (sym more) (turns (read_envelope (take i bytes)) b h)))

  pub turn_other : (did : EnvStep) (r : Reading) → (did ≡ More) ⊎ ((did ≡ Sender) ⊎ ((fault : EnvFault) × (did ≡ Fault fault))) → Turn did r → Holds r
  turn_other did r h turn =
      ⊎_elim (λ e. subst (λ s. Turn s r) e turn) (λ w. ⊎_elim (λ e. subst (λ s. Turn s r) e turn) (λ e. subst (λ s. Turn s r) e.1 turn) w) h

  pub held_start : P [] → Holds (read_envelope [])
  unfolding read_envelope
  held_start h = h

-- the recipient that has just ended is one of those so far
pub recipient_held : (P Q : List (List ℕ) → Type 0) (r : Reading) → HeldBefore P r → ((recipients : List (List ℕ)) → P recipients → Q (recipients ++ ended_address (reader_of r) ∷ [])) → Holds Q r
recipient_held P Q (Whole sender recipients) h more = absurd h
recipient_held P Q (Open stage) h more = subst Q (sym h.2) (more h.0 h.1)
recipient_held P Q (Broken before fault) h more = absurd h

-- an envelope that has ended stays as it is
ended : (r : Reading) (more : List ℕ) → step_of r ≡ End → read_more r more ≡ r
ended (Whole sender recipients) more h = refl
ended (Open Begin) more h = absurd cc
ended (Open (InSender begun)) more h = absurd cc
ended (Open (Between sender [])) more h = absurd cc
ended (Open (Between sender (recipient ∷ recipients))) more h = absurd cc
ended (Open (InRecipient sender recipients begun)) more h = absurd cc
ended (Broken before fault) more h = absurd cc

-- it holds of all recipients, if the envelope has ended
pub held_whole : (P : List (List ℕ) → Type 0) (bytes : List ℕ) (i : ℕ) (did : EnvStep) → i < length bytes → Holds P (read_envelope (take i bytes))
    → did ≡ step_of (read_envelope (take i bytes ++ get_or bytes i 0 ∷ [])) → did ≡ End → P (recipients_read (read_envelope bytes))
held_whole P bytes i did inside h is end =
    let turn : Turn P End (read_envelope (take (i + 1) bytes)) = subst (λ s. Turn P s (read_envelope (take (i + 1) bytes))) end (turned P bytes i did inside h is) in
    let stops : step_of (read_envelope (take (i + 1) bytes)) ≡ End = ap (λ l. step_of (read_envelope l)) (take_more bytes i 0 inside) ∙ sym is ∙ end in
    let whole : read_envelope bytes ≡ read_envelope (take (i + 1) bytes) =
    ap read_envelope (sym (take-append-drop (i + 1) bytes)) ∙ read_envelope-append (take (i + 1) bytes) (drop (i + 1) bytes)
    ∙ ended (read_envelope (take (i + 1) bytes)) (drop (i + 1) bytes) stops in
    subst (λ r. P (recipients_read r)) (sym whole) turn

-- an envelope that has not ended has none
none_read : (P : List (List ℕ) → Type 0) (r : Reading) → Holds P r → recipients_read r ≡ []
none_read P (Whole sender recipients) h = absurd h
none_read P (Open stage) h = refl
none_read P (Broken before fault) h = refl

pub held_none : (P : List (List ℕ) → Type 0) (bytes : List ℕ) (i : ℕ) → length bytes ≤ i → Holds P (read_envelope (take i bytes)) → recipients_read (read_envelope bytes) ≡ []
held_none P bytes i past h = ap (λ l. recipients_read (read_envelope l)) (sym (take_all i bytes past)) ∙ none_read P (read_envelope (take i bytes)) h

-- the bytes within the limit
pub recipients_within : (envelope bytes : List ℕ) (k : ℕ) → bytes ≡ take k envelope → k ≡ min limit (length envelope) → recipients_read (read_envelope bytes) ≡ recipients_in envelope
recipients_within envelope bytes k is within =
    ap (λ l. recipients_read (read_envelope l)) (is ∙ ap (λ k. take k envelope) within ∙ take_min limit envelope)
