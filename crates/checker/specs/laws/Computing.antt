-- Names for all that checking a sheet computes with: on an `unfolding` line each opens whatever its own line names.
use Rattle.sheet.specs.Header.{read_header}
use Rattle.sheet.specs.Record.{read_record, record_in}
use Rattle.hull.specs.laws.Computing.{judging}
use Rattle.checker.specs.Entry.{read_entry, entry_in, entry_fault}
use Rattle.checker.specs.Check.{◌then◌, demand, sheet_header, header_for, parts_from, sound_after, records_in, sheet_in, entry_of, verdicts, bytes_of, failures, answer_of, output_of}

-- reading the sheet
unfoldable pub reading : Type 0
unfolding sheet_in header_for sheet_header records_in parts_from sound_after ◌then◌ demand read_header read_record record_in
reading = Unit {0}

-- and then the answer, the output and a verdict in it
unfoldable pub checking : Type 0
unfolding reading judging answer_of output_of verdicts entry_of bytes_of failures read_entry entry_in entry_fault
checking = Unit {0}
