use Rattle.nhi_address.proofs.NhiTexts.{nhi_of-nhi_text}
use Rattle.nhi_address.proofs.nhi.print_nhi.Goals as goal

pub returns-then-is_err-clause-reads_back : goal.returns-then-is_err-clause-reads_back
returns-then-is_err-clause-reads_back c = nhi_of-nhi_text _ c.push_nhi-pushed.ensures.known

pub returns-else-is_err-clause-reads_back : goal.returns-else-is_err-clause-reads_back
returns-else-is_err-clause-reads_back c = nhi_of-nhi_text _ c.push_nhi-pushed.ensures.known
