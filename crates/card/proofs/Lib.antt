mod Loans
