pub mod LoanLemmas
pub mod Passed
pub mod SdpLemmas
pub mod RtpLemmas
pub mod PartLemmas
