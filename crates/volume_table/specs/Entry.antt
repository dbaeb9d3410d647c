-- An entry as the definition of the volume table sees it (Linux ftape headers).
use Rattle.cartridge_spec.specs.Table as table
use Rattle.volume_table.specs.declared.entry.Entry.{Entry}

-- the fields of a used slot
abbrev pub entry_of : Entry → table.Entry
entry_of e = record {
  start = e.start;
  end = e.end;
  name = e.name;
  date = e.date;
  flags = e.flags;
  sequence = e.sequence;
  directory = e.directory;
  size = e.size;
}
