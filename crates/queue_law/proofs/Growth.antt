-- Ledgers that grow.
use Rattle.std.proofs.Common.{inr, refl}
use Rattle.queue_law.specs.Ledgers.{Ledger, Line, HasGrown, line_in}
use Rattle.queue_law.specs.Ledgers.Line.{Delivers, Drops, Fails, Marks, Notes, Reads, Returns, Routes}

pub grown_same : (l : Ledger) → HasGrown l l
grown_same l = record {
  delivered = λ s h. h;
  failed = λ s h. h;
  noted = λ it h. h;
  marked = λ it h. h;
  reads = λ it h. h;
  bounced = λ b h. h;
  dropped = λ h. h;
}

pub grown_on : (k l m : Ledger) → HasGrown k l → HasGrown l m → HasGrown k m
grown_on k l m first next = record {
  delivered = λ s h. next.delivered s (first.delivered s h);
  failed = λ s h. next.failed s (first.failed s h);
  noted = λ it h. next.noted it (first.noted it h);
  marked = λ it h. next.marked it (first.marked it h);
  reads = λ it h. next.reads it (first.reads it h);
  bounced = λ b h. next.bounced b (first.bounced b h);
  dropped = λ h. next.dropped (first.dropped h);
}

pub line_grows : (line : Line) (l : Ledger) → HasGrown l (line_in line l)
line_grows (Routes by) l = record {
  delivered = λ t h. h;
  failed = λ t h. h;
  noted = λ it h. h;
  marked = λ it h. h;
  reads = λ it h. h;
  bounced = λ b h. h;
  dropped = λ h. h;
}
line_grows (Delivers s) l = record {
  delivered = λ t h. inr h;
  failed = λ t h. h;
  noted = λ it h. h;
  marked = λ it h. h;
  reads = λ it h. h;
  bounced = λ b h. h;
  dropped = λ h. h;
}
line_grows (Fails s) l = record {
  delivered = λ t h. h;
  failed = λ t h. inr h;
  noted = λ it h. h;
  marked = λ it h. h;
  reads = λ it h. h;
  bounced = λ b h. h;
  dropped = λ h. h;
}
line_grows (Notes one) l = record {
  delivered = λ t h. h;
  failed = λ t h. h;
  noted = λ it h. inr h;
  marked = λ it h. h;
  reads = λ it h. h;
  bounced = λ b h. h;
  dropped = λ h. h;
}
line_grows (Marks one) l = record {
  delivered = λ t h. h;
  failed = λ t h. h;
  noted = λ it h. h;
  marked = λ it h. inr h;
  reads = λ it h. h;
  bounced = λ b h. h;
  dropped = λ h. h;
}
line_grows (Reads one) l = record {
  delivered = λ t h. h;
  failed = λ t h. h;
  noted = λ it h. h;
  marked = λ it h. h;
  reads = λ it h. inr h;
  bounced = λ b h. h;
  dropped = λ h. h;
}
line_grows (Returns bounce) l = record {
  delivered = λ t h. h;
  failed = λ t h. h;
  noted = λ it h. h;
  marked = λ it h. h;
  reads = λ it h. h;
  bounced = λ b h. inr h;
  dropped = λ h. h;
}
line_grows Drops l = record {
  delivered = λ t h. h;
  failed = λ t h. h;
  noted = λ it h. h;
  marked = λ it h. h;
  reads = λ it h. h;
  bounced = λ b h. h;
  dropped = λ h. refl;
}
