-- What the reader's functions on parts of a page promise of a record; no public call mentions it.
-- Assumes nothing.
use Rattle.records.specs.declared.Program.{Program}
use Rattle.shapes.specs.Inner.{byte, two_bytes, narrow_why}

-- a record as the tables' bytes hold it
abbrev pub narrow_record : Program → Program
narrow_record r = record {
  used = r.used;
  name = r.name;
  priority = two_bytes r.priority;
  state = byte r.state;
  why = narrow_why r.why;
  due = r.due;
  interval = r.interval;
  suspend = r.suspend;
}
