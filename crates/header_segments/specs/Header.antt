-- A header as its definition sees it (Linux ftape headers).
use Rattle.cartridge_spec.specs.Header as spec
use Rattle.header_segments.specs.declared.header.Header.{Header}

-- what it tells
abbrev pub header_of : Header → spec.Header
header_of h = record {
  format_date = h.format_date;
  write_date = h.write_date;
  segments_per_track = h.segments_per_track;
  label = h.label;
  label_date = h.label_date;
}
