pub mod CertStages
pub mod CertChecking
pub mod Certifying
pub mod CertLoading
pub mod CertLaws
