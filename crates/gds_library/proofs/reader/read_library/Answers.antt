use Rattle.std.proofs.lemmas.Result.{IfOk-weaker}
use Rattle.gds_records.proofs.Longest.{records_are_longest}
use Rattle.gds_model.specs.Faults.{HasNoFault}
use Rattle.gds_model.specs.Library.{StreamLibrary, IsLibraryOf, IsLayout}
use Rattle.gds_library.proofs.ReadAnswers.{must_read, must_refuse}
use Rattle.gds_library.proofs.reader.read_library.Goals as goal

pub returns-clause-library : goal.returns-clause-library
returns-clause-library c =
    IfOk-weaker c.read_records.result _ (λ described. IsLibraryOf c.args.bytes.now described) (λ described known. known.1) c.read_records.ensures.read

pub returns-clause-layout : goal.returns-clause-layout
returns-clause-layout c =
    IfOk-weaker c.read_records.result _ (λ described. IsLayout described) (λ described known. known.2) c.read_records.ensures.read

pub returns-clause-fine : goal.returns-clause-fine
returns-clause-fine c =
    IfOk-weaker c.read_records.result _ (λ described. HasNoFault c.args.bytes.now) (λ described known. known.0) c.read_records.ensures.read

pub returns-clause-reads : goal.returns-clause-reads
returns-clause-reads c =
    must_read c.args.bytes.now StreamLibrary (λ described. IsLibraryOf c.args.bytes.now described × IsLayout described) c.read_records.result
    c.read_records.ensures.fault

pub returns-clause-refuses : goal.returns-clause-refuses
returns-clause-refuses c =
    must_refuse c.args.bytes.now StreamLibrary (λ described. IsLibraryOf c.args.bytes.now described × IsLayout described) c.read_records.result
    (IfOk-weaker c.read_records.result _ (λ described. HasNoFault c.args.bytes.now × (IsLibraryOf c.args.bytes.now described × IsLayout described))
    (λ described known. (known.0, (known.1, known.2))) c.read_records.ensures.read) c.read_records.ensures.fault

pub returns-clause-records : goal.returns-clause-records
returns-clause-records c = records_are_longest c.args.bytes.now 0
