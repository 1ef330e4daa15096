-- All that a past tells, in one.
use Rattle.std.proofs.Common.{ℕ, List, Option}
use Rattle.call_fs.specs.declared.past.ChildData.{ChildData}
use Rattle.call_fs.specs.declared.past.GotData.{GotData}
use Rattle.call_fs.specs.declared.past.NeedData.{NeedData}
use Rattle.call_fs.specs.declared.past.Own.{Own}
use Rattle.local_deliver.specs.Deeds.{Exited, FileText, LinkMade, exits, exits_by, feeds, feeds_by, links, last_opened, links_by, names_by, opens_by, read_of, reads_by, starts, starts_by, statuses, statuses_by, told_names}
use Rattle.call_fs.specs.Past.{taken, taken_by}

pub record Deeds : Type 0 where
  pub taken : List ℕ
  -- of each directory
  pub names : List ℕ → List (List ℕ)
  pub opened : List ℕ
  -- of each file
  pub read : List ℕ → FileText
  pub links : List LinkMade
  pub exits : List Exited
  pub starts : List ChildData
  pub feeds : List (List ℕ)
  pub statuses : List ℕ

abbrev pub deeds_by : Deeds → NeedData → GotData → Deeds
deeds_by d due got = record {
  taken = taken_by d.taken due got;
  names = λ dir. names_by dir (d.names dir) due got;
  opened = opens_by d.opened due got;
  read = λ name. reads_by name d.opened (d.read name) due got;
  links = links_by d.links due got;
  exits = exits_by d.exits due got;
  starts = starts_by d.starts due got;
  feeds = feeds_by d.feeds due got;
  statuses = statuses_by d.statuses due got;
}

abbrev pub deeds_of : List Own → Deeds
deeds_of past = record {
  taken = taken past;
  names = λ dir. told_names dir past;
  opened = last_opened past;
  read = λ name. read_of name past;
  links = links past;
  exits = exits past;
  starts = starts past;
  feeds = feeds past;
  statuses = statuses past;
}
