use Rattle.unwrap.proofs.Delivered.{behind_files, refused_counts}
use Rattle.unwrap.proofs.deliver.deliver.Goals as goal

pub returns-in-Err-clause-counts : goal.returns-in-Err-clause-counts
returns-in-Err-clause-counts g c = refused_counts _ _ _ _ _ _ _ _ (rw c.in-Err.is at c.make-bytes.ensures.made)

pub returns-in-Err-clause-behind_files : goal.returns-in-Err-clause-behind_files
returns-in-Err-clause-behind_files g c = behind_files _ _ _ _ _ _ _ (rw c.in-Err.is at c.make-bytes.ensures.made)

pub returns-in-Err-clause-tables : goal.returns-in-Err-clause-tables
returns-in-Err-clause-tables g c = rw c.in-Err.is at c.make-bytes.ensures.tables

pub returns-in-Err-clause-unread : goal.returns-in-Err-clause-unread
returns-in-Err-clause-unread g c = rw c.in-Err.is at c.make-bytes.ensures.unread
