-- As many recipients are counted as the accepted mails have.
use Rattle.std.proofs.Common.{◌≡◌, ℕ, ◌+◌, List, [], ◌∷◌, ◌++◌, length, map, replicate, Bool, true, false, Option, Some, None, cond, refl, sym, ap₂, ◌∙◌, arith, length-append}
use Rattle.std.specs.Prelude.{flat_map}
use Rattle.std.specs.List.{sum_by}
use Rattle.std.proofs.lemmas.List.{length-map, length-replicate}
use Rattle.std.proofs.lemmas.List.Sums.{sum_by-cons}
use Rattle.address_rules.specs.declared.controls.Controls.{Controls}
use Rattle.call_fs.specs.Disk.{Disk}
use Rattle.queue_inject.specs.Texts.{recipients_of}
use Rattle.queue_inject.specs.declared.injection.Arguments.{Arguments}
use Rattle.script_disks.specs.Routes.{recipients_in, routes_after, routes_in}
use Rattle.script_traces.specs.declared.fates.RecipientFate.{RecipientFate}
use Rattle.script_traces.specs.declared.fates.RecipientFate.TheVariants.{Pending, Dropped}
use Rattle.world_events.specs.declared.books.Entry.{Entry}
use Rattle.mail_world.specs.Books.{books_in, entry_in, mails_of}
use Rattle.mail_world.specs.History.{Event, after}
use Rattle.scenario.specs.Shown.{View, accepted_fates, failed_fate, fate_of, fates_of, is_queued, lasting, routes_by, sorted_fates, view_of}
use Rattle.scenario.specs.Summed.{all_fates, counted_recipients, mail_fates}

-- each address has one route
each_routed : (controls : Controls) (earlier recipients : List (List ℕ)) → length (routes_after controls earlier recipients) ≡ length recipients
each_routed controls earlier [] = refl
each_routed controls earlier (address ∷ later) = let rest = each_routed controls (earlier ++ address ∷ []) later in omega (arith, rest)

-- a choice of two lists that are as long
as_long : (b : Bool) (here there : List RecipientFate) (n : ℕ) → length here ≡ n → length there ≡ n → length (cond b here there) ≡ n
as_long true here there n h k = h
as_long false here there n h k = k

if_accepted : (b : Bool) (fates : List RecipientFate) (n : ℕ) → length fates ≡ n → length (cond b fates []) ≡ cond b n 0
if_accepted true fates n h = h
if_accepted false fates n h = refl

-- A mail, whose entry has as many recipients as its envelope
module _ (v : View) (e : Entry) (envelope : List ℕ) (own : e.recipients ≡ length (recipients_in envelope)) where
  sorted_length : (o : Option Controls) → length (sorted_fates v e o envelope) ≡ e.recipients
  sorted_length None = length-replicate e.recipients Dropped
  sorted_length (Some controls) =
      length-map (routes_in controls (recipients_in envelope)) (fate_of v e.actor e.number (failed_fate envelope))
      ∙ each_routed controls [] (recipients_in envelope)
      ∙ sym own

  accepted_length : length (accepted_fates v e envelope) ≡ e.recipients
  accepted_length = as_long (is_queued v.disk (lasting v.books e.actor e.number)) (replicate e.recipients Pending) (sorted_fates v e (routes_by v.books e.actor e.number) envelope) e.recipients
      (length-replicate e.recipients Pending) (sorted_length (routes_by v.books e.actor e.number))

  fates_length : length (fates_of v e envelope) ≡ counted_recipients e
  fates_length = if_accepted e.accepted (accepted_fates v e envelope) e.recipients accepted_length

-- the books count the recipients of the envelope
own_count : (args : Arguments) → length (recipients_of args) ≡ length (recipients_in args.envelope)
unfolding recipients_of
own_count args = refl

mails_summed : (d : Disk) (h : List Event) (mails : List (List ℕ × Arguments)) → length (flat_map (mail_fates d h) mails) ≡ sum_by counted_recipients (map (entry_in (after d h) h) mails)
mails_summed d h [] = refl
mails_summed d h (mail ∷ mails) =
    let entry : Entry = entry_in (after d h) h mail in
    length-append (mail_fates d h mail) (flat_map (mail_fates d h) mails)
    ∙ ap₂ (λ (a b : ℕ). a + b) (fates_length (view_of d h) entry mail.1.envelope (own_count mail.1)) (mails_summed d h mails)
    ∙ sym (sum_by-cons counted_recipients entry (map (entry_in (after d h) h) mails))

pub all_summed : (d : Disk) (h : List Event) → length (all_fates d h) ≡ sum_by counted_recipients (books_in d h)
all_summed d h = mails_summed d h (mails_of h)
