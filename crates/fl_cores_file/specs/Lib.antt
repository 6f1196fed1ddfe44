-- The public promises rest on Jobs, Draft, Verdicts and CoresFile (what a cores file comes to), on Report and Printed (a report, and
-- what is printed), and on what the code's own types stand for: Reports, in Files what was read, and in Views jobs and requests. The rest
-- of Views, and what Files and Verdicts say of the reading half-way, is the code's own.
pub mod Verdicts
pub mod Jobs
pub mod Draft
pub mod CoresFile
pub mod Report
pub mod Printed
pub mod Views
pub mod Files
pub mod Reports
