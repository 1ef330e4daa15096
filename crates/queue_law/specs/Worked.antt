-- A worked message: `mail a s@z a@x b@y : hi`, while control/locals has `x`.
use Rattle.std.specs.Prelude.{◌≡◌, [], ◌∷◌, ◌++◌, codes}
use Rattle.address_rules.specs.declared.controls.Controls.{Controls}
use Rattle.received_line.specs.declared.line.Invoked.TheVariants as invoking
use Rattle.queue_inject.specs.declared.injection.Arguments.{Arguments}
use Rattle.queue_inject.specs.declared.injection.InputEnd.TheVariants.{Whole}
use Rattle.queue_inject.specs.Texts.{recipients_of}
use Rattle.send_known.specs.declared.channel.Channel.TheVariants.{Local, Remote}
use Rattle.queue_law.specs.Entered.{named_by}
use Rattle.queue_law.specs.Ledgers.{Ledger, no_ledger, unrouted}
use Rattle.queue_law.specs.Routes.{info_of, lane_text, spot_after}
use Rattle.queue_law.specs.Marks.{IsMarked, MayBeMarked}

abbrev pub controls_x : Controls
controls_x = record {
  me = codes "x";
  locals = codes "x" ∷ [];
  percent_hack = [];
  virtual_domains = [];
  env_no_at_host = codes "x";
  bounce_from = codes "MAILER-DAEMON";
  bounce_host = codes "x";
  double_bounce_to = codes "postmaster";
  double_bounce_host = codes "x";
  concurrency_local = 10;
  concurrency_remote = 20;
  queue_lifetime = 604800;
}

abbrev pub message_a : Arguments
message_a = record {
  uid = 1000;
  pid = 77;
  invoked = invoking.Uid 1000;
  start = 0;
  message = codes "hi";
  message_end = Whole;
  envelope = codes "Fs@z" ++ (0 ∷ (codes "Ta@x" ++ (0 ∷ (codes "Tb@y" ++ (0 ∷ 0 ∷ [])))));
  envelope_end = Whole;
}

-- `a@x` was reported delivered
abbrev pub ledger_a : Ledger
ledger_a = record no_ledger { delivered = record { channel = Local; place = 0 } ∷ [] }

-- its note is synced
abbrev pub ledger_noted : Ledger
ledger_noted = record no_ledger { failed = record { channel = Local; place = 0 } ∷ []; noted = named_by controls_x Local 0 ∷ [] }

-- and its record was written over by a sender with these controls
abbrev pub with_mark : Ledger → Ledger
with_mark l = record l { marked = named_by controls_x Local 0 ∷ l.marked }

-- What preprocessing makes of it; what local/1 may hold before and after the mark; and which marks may be made.
pub record WorkedMessage : Type 0 where
  pub recipients : recipients_of message_a ≡ codes "a@x" ∷ codes "b@y" ∷ []
  pub info : info_of message_a ≡ codes "Fs@z" ++ 0 ∷ []
  pub local : lane_text controls_x message_a Local ≡ codes "Ta@x" ++ 0 ∷ []
  pub remote : lane_text controls_x message_a Remote ≡ codes "Tb@y" ++ 0 ∷ []
  pub first : spot_after controls_x [] (codes "a@x") ≡ record { channel = Local; place = 0 }
  pub second : spot_after controls_x (codes "a@x" ∷ []) (codes "b@y") ≡ record { channel = Remote; place = 0 }
  pub unmarked : IsMarked (codes "Ta@x" ++ 0 ∷ []) ledger_a Local (codes "Ta@x" ++ 0 ∷ [])
  pub done : IsMarked (codes "Ta@x" ++ 0 ∷ []) (with_mark ledger_a) Local (codes "Da@x" ++ 0 ∷ [])
  pub too_early : ¬ (IsMarked (codes "Ta@x" ++ 0 ∷ []) ledger_a Local (codes "Da@x" ++ 0 ∷ []))
  pub delivered : MayBeMarked ledger_a (named_by controls_x Local 0)
  pub noted : MayBeMarked ledger_noted (named_by controls_x Local 0)
  -- not under a name that it isn't noted under
  pub renamed : ¬ (MayBeMarked ledger_noted (named_by unrouted Local 0))
