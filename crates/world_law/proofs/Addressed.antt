-- The injection of a delivery's forwards is from whom it forwards, to the addresses of its lines.
use Rattle.std.proofs.Common.{◌≡◌, ℕ, List, [], ◌∷◌, ◌++◌, Bool, true, false, Some, refl, sym, ap, ◌∙◌, subst, codes, if◌then◌else◌}
use Rattle.std.proofs.lemmas.List.Elements.{All-append}
use Rattle.mail_bytes.specs.Texts.{HasNoNul}
use Rattle.call_fs.specs.Disk.{Disk}
use Rattle.call_fs.specs.declared.past.Own.{Own}
use Rattle.local_deliver.specs.Carried.{AreDrops, IsCarried, IsInjected as HasOne}
use Rattle.local_deliver.specs.Deeds.{feeds, statuses, told_names}
use Rattle.local_parts.specs.declared.arguments.LocalArgs.{LocalArgs}
use Rattle.local_parts.specs.Forwarding.{envelope, forward_sender, forwards, has_default_owner, has_owner, injection_of, injection_to, net_text, owner_sender}
use Rattle.local_parts.specs.Texts.{forward_text}
use Rattle.dot_qmail.specs.declared.line.Line.{Line}
use Rattle.program_law.proofs.Post.Told.{words as plain_text}
use Rattle.queue_inject.specs.declared.injection.Arguments.{Arguments}
use Rattle.queue_law.specs.Books.{Books, Injection, IsInjected, IsValid}
use Rattle.world_events.specs.declared.event.Program.{Program}
use Rattle.world_events.specs.declared.event.Program.TheVariants.{Delivery}
use Rattle.mail_world.specs.History.{Actor, Event, Legal, after}
use Rattle.mail_world.specs.History.Life.{Over}
use Rattle.world_law.specs.Carried.{Carried, WereInjected}
use Rattle.world_law.specs.Deliveries.{ForwardsAreAddressed, IsCarriedOut, IsForwardOf, IsForwarded, IsForwardedTo}
use Rattle.world_law.specs.Headline.{EndsWell}
use Rattle.world_law.proofs.CarriedLinks.{links_are}
use Rattle.world_law.proofs.Envelopes.{ArePlain, addressed}
use Rattle.world_law.proofs.Histories.{safe_always}
use Rattle.world_law.proofs.Inputs.{two_texts}
use Rattle.world_law.proofs.PlainDeliveries.{HasPlainArgs, IsPlainBy, all_plain}
use Rattle.world_law.proofs.PlainLines.{forwards_plain}

abbrev IsPlain : ℕ → Type 0
IsPlain b = b ≡ 0 → ⊥

-- The sender of the forwards

module _ (args : LocalArgs) (plain : HasPlainArgs args) where
  owner_plain : (t : Bool) → HasNoNul (owner_sender args t)
  owner_plain false = All-append IsPlain args.local (codes "-owner@" ++ args.domain) plain.local (All-append IsPlain (codes "-owner@") args.domain (plain_text (codes "-owner@") refl) plain.domain)
  owner_plain true = All-append IsPlain args.local (codes "-owner-@" ++ (args.domain ++ codes "-@[]")) plain.local
      (All-append IsPlain (codes "-owner-@") (args.domain ++ codes "-@[]") (plain_text (codes "-owner-@") refl)
      (All-append IsPlain args.domain (codes "-@[]") plain.domain (plain_text (codes "-@[]") refl)))

  chosen_plain : (t : Bool) (owner : List ℕ) → HasNoNul owner → HasNoNul (if t then owner else args.sender)
  chosen_plain true owner h = h
  chosen_plain false owner h = plain.sender

  sender_plain : (names : List (List ℕ)) → HasNoNul (forward_sender args names)
  sender_plain names = chosen_plain (has_owner args names) (owner_sender args (has_default_owner args names)) (owner_plain (has_default_owner args names))

-- Its injection

module _ (b : Books) (valid : (q : Injection) → IsInjected b q → q.accepted ≡ true → IsValid q.args) (args : LocalArgs) (past : List Own) (plain : HasPlainArgs args) where
  abbrev from : List ℕ
  from = forward_sender args (told_names args.home past)

  forward_of : (message : List ℕ) (addresses : List (List ℕ)) → ArePlain addresses → IsForwarded b (net_text (forward_text args message) ++ net_text (envelope from addresses))
      → IsForwardOf b args past message addresses
  forward_of message addresses each h =
      let texts = two_texts h.args.message h.args.envelope (forward_text args message) (envelope from addresses) (sym h.input_is) in
      let fine : IsValid h.args = subst (λ (z : Arguments). IsValid z) h.accepted.3 (valid h.accepted.0 h.accepted.1 h.accepted.4) in
      let w = addressed h.args from addresses (sender_plain args plain (told_names args.home past)) each texts.1 fine in
      record { actor = h.actor; words = h.args; accepted = h.accepted; message_is = texts.0; from = w.0; to = w.1 }

  one_each : (message : List ℕ) (addresses : List (List ℕ)) → ArePlain addresses → HasOne args (injection_to args (told_names args.home past) message addresses) past
      → ((input : List ℕ) → feeds past ≡ input ∷ [] → statuses past ≡ 0 ∷ [] → IsForwarded b input) → IsForwardedTo b args past message addresses
  one_each message [] each one forwarded = tt
  one_each message (address ∷ more) each one forwarded =
      forward_of message (address ∷ more) each (forwarded (net_text (forward_text args message) ++ net_text (envelope from (address ∷ more))) one.1.0 one.1.1)

  -- and it is all that was started and given
  injected_each : (message : List ℕ) (addresses : List (List ℕ)) → ArePlain addresses → HasOne args (injection_to args (told_names args.home past) message addresses) past
      → ((input : List ℕ) → feeds past ≡ input ∷ [] → statuses past ≡ 0 ∷ [] → IsForwarded b input) → WereInjected b args past message addresses
  unfolding forward_of
  injected_each message [] each one forwarded = one
  injected_each message (address ∷ more) each one forwarded =
      let h = forwarded (net_text (forward_text args message) ++ net_text (envelope from (address ∷ more))) one.1.0 one.1.1 in
      record {
        it = forward_of message (address ∷ more) each h;
        room = _;
        started = one.0;
        gave = one.1.0 ∙ ap (λ (t : List ℕ). t ∷ []) h.input_is;
        ended = one.1.1;
      }

  one_of : (message : List ℕ) (lines : List Line) → HasOne args (injection_of args (told_names args.home past) message lines) past → HasOne args (injection_to args (told_names args.home past) message (forwards lines)) past
  unfolding injection_of
  one_of message lines h = h

  forwarded_to : (out : IsCarriedOut b args past) → IsForwardedTo b args past out.carried.message (forwards out.carried.reached)
  forwarded_to out =
      let c : IsCarried args past = out.carried in
      one_each c.message (forwards c.reached) (forwards_plain args past c.lines _ c.reached c.told c.reaches) (one_of c.message c.reached c.injected) out.forwarded

  all_injected : (out : IsCarriedOut b args past) → WereInjected b args past out.carried.message (forwards out.carried.reached)
  all_injected out =
      let c : IsCarried args past = out.carried in
      injected_each c.message (forwards c.reached) (forwards_plain args past c.lines _ c.reached c.told c.reaches) (one_of c.message c.reached c.injected) out.forwarded

-- a delivery that ended with 0 has carried out its instructions
module _ (d : Disk) (before : List Event) (legal : Legal d before) (a : List ℕ) (x : Actor) (is : (after d before).actors a ≡ Some x)
    (start : ℕ) (args : LocalArgs) (program : x.program ≡ Delivery start args) (over : x.life ≡ Over 0) where
  pub carried_out : IsCarriedOut (after d before).books args x.past
  carried_out = subst (λ (p : Program). EndsWell (after d before).books a p x.past) program ((safe_always d before legal).ends a x is over)

  plain_args : HasPlainArgs args
  plain_args = subst (λ (p : Program). IsPlainBy p) program (all_plain d before legal a x is)

  carried_so : (message : List ℕ) × Carried d before a args x.past message
  carried_so =
      let c = carried_out.carried in
      let L = links_are d before legal a x is start args program in (
        c.message,
        record {
          input = c.input;
          host = c.host;
          host_is = c.host_is;
          lines = c.lines;
          told = c.told;
          reached = c.reached;
          reaches = c.reaches;
          drops = subst (AreDrops args c.host c.message c.reached) (sym L.pairs) c.drops;
          whole = λ it among. L.whole it among c.message c.input;
          injected = all_injected (after d before).books (safe_always d before legal).valid args x.past plain_args carried_out;
        },
      )

pub deliveries_are_carried : (d : Disk) (before : List Event) → Legal d before → (a : List ℕ) (x : Actor) → (after d before).actors a ≡ Some x
    → (start : ℕ) (args : LocalArgs) → x.program ≡ Delivery start args → x.life ≡ Over 0 → (message : List ℕ) × Carried d before a args x.past message
deliveries_are_carried d before legal a x is start args program over = carried_so d before legal a x is start args program over

pub forwards_are_addressed : ForwardsAreAddressed
forwards_are_addressed d before legal a x is start args program over =
    let out = carried_out d before legal a x is start args program over in
    (out.carried, forwarded_to (after d before).books (safe_always d before legal).valid args x.past (plain_args d before legal a x is start args program over) out)
